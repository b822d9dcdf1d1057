use Rattle.std.proofs.Common.{suc}
use Rattle.ruby_reading.specs.Ahead.{ahead}
use Rattle.ruby_parser.specs.TreeRules.{of_args, of_body, of_tree, of_value}
use Rattle.ruby_parser.proofs.PartsRead.{arguments_part, command_part, given, nested_part, one_part, otherwise_part, pairs_part, tree_part}
use Rattle.ruby_parser.proofs.parts.part_here.Goals as goal

pub returns-in-Otherwise : goal.returns-in-Otherwise
returns-in-Otherwise g c =
    given c.args.part c.args.parser.now.takes_do c.args.parser.now.in_rescue (suc c.args.parser.now.depth) (ahead c.args.cursor.now) (ahead c.otherwise.new.cursor) (of_body c.otherwise.result) c.of_body.result c.of_body.ensures
    (otherwise_part c.args.part c.args.parser.now.takes_do c.args.parser.now.in_rescue (suc c.args.parser.now.depth) (ahead c.args.cursor.now) (ahead c.otherwise.new.cursor) c.otherwise.result c.in-Otherwise.is c.requires.takes c.requires.rescue c.otherwise.ensures)

pub returns-in-OneValue : goal.returns-in-OneValue
returns-in-OneValue g c =
    given c.args.part c.args.parser.now.takes_do c.args.parser.now.in_rescue (suc c.args.parser.now.depth) (ahead c.args.cursor.now) (ahead c.one_value_here.new.cursor) (of_value c.one_value_here.result) c.of_value.result c.of_value.ensures
    (one_part c.args.part c.args.parser.now.takes_do c.args.parser.now.in_rescue (suc c.args.parser.now.depth) (ahead c.args.cursor.now) (ahead c.one_value_here.new.cursor) c.one_value_here.result c.in-OneValue.is c.requires.takes c.requires.rescue c.one_value_here.ensures)

pub returns-in-NestedValue : goal.returns-in-NestedValue
returns-in-NestedValue g c =
    given c.args.part c.args.parser.now.takes_do c.args.parser.now.in_rescue (suc c.args.parser.now.depth) (ahead c.args.cursor.now) (ahead c.nested_value_here.new.cursor) (of_value c.nested_value_here.result) c.of_value-in-NestedValue.result c.of_value-in-NestedValue.ensures
    (nested_part c.args.part c.args.parser.now.takes_do c.args.parser.now.in_rescue (suc c.args.parser.now.depth) (ahead c.args.cursor.now) (ahead c.nested_value_here.new.cursor) c.nested_value_here.result c.in-NestedValue.is c.requires.takes c.requires.rescue c.nested_value_here.ensures)

pub returns-in-Arguments : goal.returns-in-Arguments
returns-in-Arguments g c =
    given c.args.part c.args.parser.now.takes_do c.args.parser.now.in_rescue (suc c.args.parser.now.depth) (ahead c.args.cursor.now) (ahead c.arguments.new.cursor) (of_args c.arguments.result) c.of_args.result c.of_args.ensures
    (arguments_part c.args.part c.args.parser.now.takes_do c.args.parser.now.in_rescue (suc c.args.parser.now.depth) (ahead c.args.cursor.now) (ahead c.arguments.new.cursor) c.in-Arguments.blocks c.arguments.result c.in-Arguments.is c.requires.takes c.requires.rescue c.arguments.ensures)

pub returns-in-CommandArguments : goal.returns-in-CommandArguments
returns-in-CommandArguments g c =
    given c.args.part c.args.parser.now.takes_do c.args.parser.now.in_rescue (suc c.args.parser.now.depth) (ahead c.args.cursor.now) (ahead c.arguments_of_command.new.cursor) (of_args c.arguments_of_command.result) c.of_args-in-CommandArguments.result c.of_args-in-CommandArguments.ensures
    (command_part c.args.part c.args.parser.now.takes_do c.args.parser.now.in_rescue (suc c.args.parser.now.depth) (ahead c.args.cursor.now) (ahead c.arguments_of_command.new.cursor) c.in-CommandArguments.blocks c.arguments_of_command.result c.in-CommandArguments.is c.requires.takes c.requires.rescue c.arguments_of_command.ensures)

pub returns-in-MorePairs : goal.returns-in-MorePairs
returns-in-MorePairs g c =
    given c.args.part c.args.parser.now.takes_do c.args.parser.now.in_rescue (suc c.args.parser.now.depth) (ahead c.args.cursor.now) (ahead c.pairs.new.cursor) (of_args c.pairs.result) c.of_args-in-MorePairs.result c.of_args-in-MorePairs.ensures
    (pairs_part c.args.part c.args.parser.now.takes_do c.args.parser.now.in_rescue (suc c.args.parser.now.depth) (ahead c.args.cursor.now) (ahead c.pairs.new.cursor) c.in-MorePairs.blocks c.pairs.result c.in-MorePairs.is c.requires.takes c.requires.rescue c.pairs.ensures)

pub returns-in-Some : goal.returns-in-Some
returns-in-Some g c =
    given c.args.part c.args.parser.now.takes_do c.args.parser.now.in_rescue (suc c.args.parser.now.depth) (ahead c.args.cursor.now) (ahead c.tree_here.new.cursor) (of_tree c.tree_here.result) c.of_tree.result c.of_tree.ensures
    (tree_part c.args.part c.args.parser.now.takes_do c.args.parser.now.in_rescue (suc c.args.parser.now.depth) (ahead c.args.cursor.now) (ahead c.tree_here.new.cursor) c.in-Some.tree c.tree_here.result c.in-Some.ensures c.requires.takes c.requires.rescue c.tree_here.ensures)
