-- How often a production can be read before a level is passed.
use Rattle.std.specs.Prelude.{ℕ}
use Rattle.ruby_meaning.specs.declared.production.Production.{Production}
use Rattle.ruby_meaning.specs.declared.production.Production.TheVariants as p

abbrev pub turn : Production → ℕ
turn p.Statements = 0
turn k = 1
