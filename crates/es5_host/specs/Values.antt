-- What the types of this crate stand for.
use Rattle.std.specs.Prelude.{ℕ}
use Rattle.es5_tree.specs.Ends.{OutKind}
use Rattle.es5_tree.specs.Ends as out
use Rattle.es5_tree.specs.Intrinsics.Calls.{HostFn, number}
use Rattle.es5_tree.specs.Intrinsics.Calls as call
use Rattle.es5_host.specs.declared.answer.HostFn.{HostFn as Which}
use Rattle.es5_host.specs.declared.answer.HostFn.TheVariants.{Create, GetPrototypeOf, SetPrototypeOf, Keys, HasOwnProperty, Call, Apply, IsArray, Push, Slice, CharCodeAt, Substring, IndexOf, FromCharCode, Write, Line}
use Rattle.es5_host.specs.declared.answer.OutKind.{OutKind as Kind}
use Rattle.es5_host.specs.declared.answer.OutKind.TheVariants.{Number, Division, Conversion, Host}

abbrev pub out_of : Kind → OutKind
out_of Number = out.Number
out_of Division = out.Division
out_of Conversion = out.Conversion
out_of Host = out.Host

abbrev pub fn_of : Which → HostFn
fn_of Create = call.Create
fn_of GetPrototypeOf = call.GetPrototypeOf
fn_of SetPrototypeOf = call.SetPrototypeOf
fn_of Keys = call.Keys
fn_of HasOwnProperty = call.HasOwnProperty
fn_of Call = call.Call
fn_of Apply = call.Apply
fn_of IsArray = call.IsArray
fn_of Push = call.Push
fn_of Slice = call.Slice
fn_of CharCodeAt = call.CharCodeAt
fn_of Substring = call.Substring
fn_of IndexOf = call.IndexOf
fn_of FromCharCode = call.FromCharCode
fn_of Write = call.Write
fn_of Line = call.Line

-- the number of a function
abbrev pub number_of : Which → ℕ
number_of which = number (fn_of which)
