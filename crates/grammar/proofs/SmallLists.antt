-- The small grammar's reader on some lists.
use Rattle.std.proofs.Common.{refl}
use Rattle.grammar.specs.Readers.{read_named, read_within}
use Rattle.grammar.specs.Reading.{read_all}
use Rattle.grammar.specs.Laws.{NearestIf, NoWordTwice, Levels}

pub nearest_if : NearestIf
unfolding read_all read_named read_within
nearest_if = refl

pub no_word_twice : NoWordTwice
unfolding read_all read_named read_within
no_word_twice = refl

pub levels : Levels
unfolding read_all read_named read_within
levels = record { enough = refl; one_short = refl; none_left = refl }
