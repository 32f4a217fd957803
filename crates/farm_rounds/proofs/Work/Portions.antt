-- A round is worked: the portions of its calls.
use Rattle.std.proofs.Common.{◌≡◌, ap, ℕ, ◌*◌, ◌<◌, List, length, get_or, arith}
use Rattle.std.specs.Prelude.{map}
use Rattle.std.specs.List.{All}
use Rattle.std.proofs.lemmas.List.{length-map, get_or-map}
use Rattle.std.proofs.lemmas.List.Elements.{All-get_or}
use Rattle.trau_io.specs.declared.line.Side.{Side}
use Rattle.trau_io.specs.Lines.{LineState}
use Rattle.round_lines.specs.Portions.{PortionMemory, Fills}
use Rattle.round_lines.specs.Rounds.{Rising, no_portion, portion_at}
use Rattle.farm_rounds.specs.declared.open.OpenCall.{OpenCall}
use Rattle.farm_rounds.specs.Numbers.{IsRising}
use Rattle.farm_rounds.specs.Opens.{portion_of_open}
use Rattle.farm_rounds.specs.Opened.{no_open}
use Rattle.farm_rounds.specs.Rounds.{EndsShort}
use Rattle.farm_rounds.proofs.Places.Found.{number_of}

-- a line that failed didn't fill its buffer
pub is_short : (before now : Side → LineState) (s t : PortionMemory) → Fills before now s t →
    (length s.up ≡ 40 * s.lines.periods) × (length s.pcm ≡ 160 * s.lines.periods) → EndsShort t.lines
is_short before now s t f room =
    let periods : t.lines.periods ≡ s.lines.periods = ap (λ (x : PortionMemory). x.lines.periods) f.kept in (
      λ e. omega (arith, f.up.short e, f.up_length, room.0, periods),
      λ e. omega (arith, f.pcm.short e, f.pcm_length, room.1, periods),
    )

-- ---- the portions of open calls

pub portion_read_at : (os : List OpenCall) (k : ℕ) → k < length os → portion_at (map portion_of_open os) k ≡ portion_of_open (get_or os k no_open)
portion_read_at os k l = get_or-map portion_of_open os k no_open no_portion l

-- they rise as the calls' numbers
pub portions_rising : (os : List OpenCall) → IsRising (map number_of os) → All (λ o. o.lines.call ≡ o.job.io.call) os → Rising (map portion_of_open os)
portions_rising os rising places i j less l =
    let lj : j < length os = omega (arith, l, length-map os portion_of_open) in
    let li : i < length os = omega (arith, less, lj) in
    let up : get_or (map number_of os) i 0 < get_or (map number_of os) j 0 = rising i j less (omega (arith, lj, length-map os number_of)) in
    let a = get_or-map number_of os i no_open 0 li in
    let b = get_or-map number_of os j no_open 0 lj in
    let p = All-get_or (λ o. o.lines.call ≡ o.job.io.call) os i no_open li places in
    let q = All-get_or (λ o. o.lines.call ≡ o.job.io.call) os j no_open lj places in
    let s = ap (λ (x : PortionMemory). x.lines.call) (portion_read_at os i li) in
    let t = ap (λ (x : PortionMemory). x.lines.call) (portion_read_at os j lj) in
    omega (arith, up, a, b, p, q, s, t)
