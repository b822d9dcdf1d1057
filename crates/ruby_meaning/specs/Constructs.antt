-- The names of constructs, as error lines print them.
use Rattle.std.specs.Prelude.{ℕ, List, codes}
use Rattle.ruby_meaning.specs.declared.construct.Construct.{Construct}
use Rattle.ruby_meaning.specs.declared.construct.Construct.TheVariants as construct

abbrev pub construct_name : Construct → List ℕ
construct_name construct.Syntax = codes "Syntax"
construct_name construct.BadByte = codes "BadByte"
construct_name construct.BadCharacter = codes "BadCharacter"
construct_name construct.Unterminated = codes "Unterminated"
construct_name construct.Float = codes "Float"
construct_name construct.RationalOrComplex = codes "RationalOrComplex"
construct_name construct.Regexp = codes "Regexp"
construct_name construct.XString = codes "XString"
construct_name construct.Eval = codes "Eval"
construct_name construct.ThreadOrFiber = codes "ThreadOrFiber"
construct_name construct.ClassVariable = codes "ClassVariable"
construct_name construct.SpecialGlobal = codes "SpecialGlobal"
construct_name construct.KeywordParameter = codes "KeywordParameter"
construct_name construct.DefinedTest = codes "DefinedTest"
construct_name construct.Redo = codes "Redo"
construct_name construct.FlipFlop = codes "FlipFlop"
construct_name construct.BeginEndBlock = codes "BeginEndBlock"
construct_name construct.PatternMatch = codes "PatternMatch"
construct_name construct.DynamicRequire = codes "DynamicRequire"
construct_name construct.NumberLiteral = codes "NumberLiteral"
construct_name construct.AmbiguousArgument = codes "AmbiguousArgument"
construct_name construct.JumpOutside = codes "JumpOutside"
construct_name construct.DynamicConstant = codes "DynamicConstant"
construct_name construct.BareLambda = codes "BareLambda"
construct_name construct.TooDeep = codes "TooDeep"
construct_name construct.FileTooLong = codes "FileTooLong"
construct_name construct.BundleTooLarge = codes "BundleTooLarge"
construct_name construct.NotYet = codes "NotYet"
