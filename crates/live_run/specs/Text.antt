-- The text of a live drill (this project's profile).
use Rattle.std.specs.Prelude.{ℕ, List, [], ◌∷◌, ◌++◌, codes, decimal}
use Rattle.std.specs.List.{range_with_len, flat_map}
use Rattle.trau_bits.specs.Bits.{bits_of, octets_of}
use Rattle.call_spec.specs.Out.{out}
use Rattle.call_spec.specs.Down.{down}
use Rattle.farm_report.specs.Lines.{line_of}
use Rattle.farm_report.specs.Sums.{sum_line}
use Rattle.farm_live.specs.declared.live.Closed.{Closed}
use Rattle.farm_live.specs.Whole.{outs_of, downs_of}
use Rattle.live_run.specs.Whole.{live_call}

-- the sums of a call's outgoing lines, by the definition of a whole call
unfoldable pub live_line : ℕ → ℕ → ℕ → List ℕ
live_line seed periods c =
    sum_line c (out (live_call seed periods c)) (octets_of (down (live_call seed periods c)))

-- live periods P calls N
abbrev pub last_line : ℕ → ℕ → List ℕ
last_line periods calls = line_of
    (codes "live" ∷ codes "periods" ∷ decimal periods ∷ codes "calls" ∷ decimal calls ∷ [])

-- a line for each call, and the last one
abbrev pub live_text : ℕ → ℕ → ℕ → List ℕ
live_text seed calls periods =
    flat_map (live_line seed periods) (range_with_len 1 calls) ++ last_line periods calls

-- the sums of a closed call, by the octets of its history
unfoldable pub closed_line : Closed → List ℕ
closed_line d =
    sum_line d.call (outs_of d.entries.items) (octets_of (bits_of (downs_of d.entries.items)))
