-- Lines in memory: what is known of them, and the results of their operations (this project's profile).
use Rattle.std.specs.Prelude.{ℕ, ◌+◌, ◌-◌, ◌^◌, ◌==◌, ◌||◌, ◌++◌, Bool, min, max, nat_lt, List, [], length, take, drop, Option, Some, None, Result, Ok, Err}
use Rattle.std.specs.Prelude.{slice_get, slice_index, if◌then◌else◌}
use Rattle.std.specs.List.{list_any}
use Rattle.trau_io.specs.declared.line.Failed.{Failed}
use Rattle.trau_io.specs.declared.line.Side.{Side}
use Rattle.trau_io.specs.Lines.{LineState}
use Rattle.trau_io.specs.Desks.{DeskState}
use Rattle.trau_io.specs.Indices.{index_of_line}

-- a line in memory: the octets to come and written, the octets it still has room for, the operations that are cut or
-- fail, and its counts of operations and faults
pub record MemoryLine : Type 0 where
  pub to_come : List ℕ
  pub written : List ℕ
  pub room : ℕ
  pub cuts : List ℕ
  pub fails : List ℕ
  pub calls : ℕ
  pub faults : ℕ

-- a line before its first operation
abbrev pub new_line : List ℕ → List ℕ → List ℕ → ℕ → MemoryLine
new_line contents cuts fails room = record { to_come = contents; written = []; room = room; cuts = cuts; fails = fails; calls = 0; faults = 0 }

-- the next operation fails: its number, from 0, is in the list
abbrev pub is_failing : MemoryLine → Bool
is_failing l = list_any (λ number. number == l.calls) l.fails

-- how many of at most n octets the next operation may move: a cut of 0 counts as 1, and after the list's end there is
-- no cut
abbrev pub cut_of : MemoryLine → ℕ → ℕ
cut_of l n = if nat_lt l.calls (length l.cuts) then min n (max (slice_index l.cuts l.calls) 1) else n

abbrev failed : Failed
failed = record {}

-- the result of a read into a buffer of n octets
abbrev pub read_answer : MemoryLine → ℕ → Result ℕ Failed
read_answer l n = if is_failing l then Err failed else Ok (min (cut_of l n) (length l.to_come))

-- the result of a write of n octets: what fits moves; without room it fails
abbrev pub write_answer : MemoryLine → ℕ → Result ℕ Failed
write_answer l n = if (l.room == 0) || is_failing l then Err failed else Ok (min (cut_of l n) l.room)

-- a count that stops at its last value
abbrev pub one_more : ℕ → ℕ
one_more n = min (n + 1) (2 ^ 64 - 1)

-- the line after a read with this result
abbrev pub after_read : MemoryLine → Result ℕ Failed → MemoryLine
after_read l (Ok n) = record l { to_come = drop n l.to_come; calls = one_more l.calls }
after_read l (Err e) = record l { calls = one_more l.calls; faults = one_more l.faults }

-- the line after a write of these octets with this result
abbrev pub after_write : MemoryLine → List ℕ → Result ℕ Failed → MemoryLine
after_write l bytes (Ok n) = record l { written = l.written ++ take n bytes; room = l.room - n; calls = one_more l.calls }
after_write l bytes (Err e) = record l { calls = one_more l.calls; faults = one_more l.faults }

-- what is known of a line in memory: everything
abbrev pub state_of : MemoryLine → LineState
state_of l = record { to_come = Some l.to_come; written = Some l.written; faults = l.faults }

-- what is known of a desk in memory with these two lines
abbrev pub desk_of : MemoryLine → MemoryLine → DeskState
desk_of orders texts = record { to_come = Some orders.to_come; read_faults = orders.faults; written = Some texts.written; write_faults = texts.faults }

-- what is known of an entry of the list; of a line past its end no octets, and no fault
abbrev pub known_line : Option MemoryLine → LineState
known_line None = record { to_come = None; written = None; faults = 0 }
known_line (Some l) = state_of l

abbrev pub states_of : List MemoryLine → ℕ → Side → LineState
states_of lines call side = known_line (slice_get lines (index_of_line call side))
