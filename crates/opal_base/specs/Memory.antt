-- What the objects in memory hold.
use Rattle.std.specs.Prelude.{◌≡◌, String, ℕ, ◌+◌, ◌-◌, ◌^◌, min, List, [], ◌∷◌, None, Some, if◌then◌else◌, string_bytes, drop, Contains}
use Rattle.std.specs.Str.{bytes_eq}
use Rattle.opal_base.specs.Outside.{FileMap}
use Rattle.opal_base.specs.declared.memory.failures.Failures.{Failures}
use Rattle.opal_base.specs.declared.memory.source.MemSource.{MemSource}
use Rattle.opal_base.specs.declared.memory.source.SureSource.{SureSource}
use Rattle.opal_base.specs.declared.memory.sink.MemSink.{MemSink}
use Rattle.opal_base.specs.declared.memory.file_table.Entry.{Entry}
use Rattle.opal_base.specs.declared.memory.file_table.FileTable.{FileTable}
use Rattle.opal_base.specs.declared.memory.files.MemFiles.{MemFiles}
use Rattle.opal_base.specs.declared.memory.files.SureFiles.{SureFiles}
use Rattle.std.specs.declared.option.Option.{Option}
use Rattle.std.specs.declared.alloc.Global.{Global}

-- the next call is one of those that were told to fail, by their numbers from 0
abbrev pub FailsNext : Failures → Type 0
FailsNext failures = Contains failures.failing.items failures.calls

-- these calls were told to fail, and none was made
pub record AreNew (failures : Failures) (failing : List ℕ) : Type 0 where
  pub told : failures.failing.items ≡ failing
  pub no_call : failures.calls ≡ 0
  pub no_fault : failures.faults ≡ 0

-- a call was counted
pub record CountsCall (old new : Failures) : Type 0 where
  pub told : new.failing.items ≡ old.failing.items
  pub one : new.calls ≡ min (old.calls + 1) (2 ^ 64 - 1)

-- files that were answered to be absent are counted and named as before
pub record KeepsAbsent (old new : FileTable) : Type 0 where
  pub tally : new.tally ≡ old.tally
  pub missed : string_bytes new.missed ≡ string_bytes old.missed

-- the failures of the objects
abbrev pub source_failures : MemSource → Failures
source_failures source = source.failures

abbrev pub sink_failures : MemSink → Failures
sink_failures sink = sink.failures

abbrev pub file_failures : MemFiles → Failures
file_failures files = files.failures

-- the named files of the objects
abbrev pub mem_table : MemFiles → FileTable
mem_table files = files.table

abbrev pub sure_table : SureFiles → FileTable
sure_table files = files.table

-- the bytes that a source has left
abbrev pub mem_source_left : MemSource → List ℕ
mem_source_left source = drop source.read.at source.read.bytes.items

abbrev pub sure_source_left : SureSource → List ℕ
sure_source_left source = drop source.read.at source.read.bytes.items

-- the bytes that a sink took
abbrev pub sink_bytes : MemSink → List ℕ
sink_bytes sink = sink.taken.items

-- how many bytes a sink takes in a call at most
abbrev pub sink_limit : MemSink → ℕ
sink_limit sink = sink.most_per_call

-- the content in the first entry of this name
abbrev pub file_map : List Entry → FileMap
file_map [] name = None
file_map (entry ∷ rest) name = if bytes_eq (string_bytes entry.name) name then Some entry.bytes.items else file_map rest name

abbrev pub table_map : FileTable → FileMap
table_map table = file_map table.entries.items

abbrev pub mem_files : MemFiles → FileMap
mem_files files = table_map files.table

abbrev pub sure_files : SureFiles → FileMap
sure_files files = table_map files.table

-- the name that was kept, if one was
abbrev pub kept_name : Option (String Global) → List ℕ
kept_name None = []
kept_name (Some name) = string_bytes name
