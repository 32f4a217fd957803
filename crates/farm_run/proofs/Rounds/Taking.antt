-- What a round takes of an open call's lines, whatever fails.
use Rattle.std.proofs.Common.{◌≡◌, refl, sym, ap, ◌∙◌, subst, ℕ, ◌+◌, ◌-◌, ◌*◌, ◌/◌, ◌<◌, true, Option, Some, None, List, length, take, arith}
use Rattle.std.specs.Prelude.{min}
use Rattle.std.specs.Io.KnownBytes.{Consumes}
use Rattle.trau_io.specs.declared.line.Side.{Side}
use Rattle.trau_io.specs.declared.line.Side.TheVariants.{Up, Pcm}
use Rattle.trau_io.specs.Lines.{LineState}
use Rattle.switchboard.specs.Calls.{Done}
use Rattle.switchboard.specs.Ends.{start_of}
use Rattle.round_lines.specs.declared.transfer.Taken.{Taken}
use Rattle.round_lines.specs.Transfer.{Takes}
use Rattle.round_lines.specs.Memory as round_lines
use Rattle.round_lines.specs.Memory.{LinesMemory, fails_in}
use Rattle.round_lines.specs.Rounds.{IsIncoming}
use Rattle.round_lines.specs.Portions.{PortionMemory, Fills}
use Rattle.run_spec.specs.Run.{Run}
use Rattle.farm_run.specs.Standing.{Standing, StandingGoesOn, IsToCome, never_given}
use Rattle.farm_run.proofs.Rounds.Giving.{gave, GaveBlock}
use Rattle.farm_run.proofs.Clocks.Meeting.{meets, Meets}
use Rattle.farm_run.proofs.Rounds.Taken.{IsTaken}

-- a line that was told is told still
still_told : (u v : Option (List ℕ)) (front xs : List ℕ) → Consumes u v front → u ≡ Some xs → (ys : List ℕ) × (v ≡ Some ys)
still_told None v front xs c e = cc
still_told (Some zs) None front xs c e = absurd c
still_told (Some zs) (Some ys) front xs c e = (ys, refl)

-- one line
given : (m c : ℕ) (s : Side) (k : ℕ) (line : List ℕ) (was now : LineState) (t : Taken)
    (block : List ℕ) (behind last : Standing) → IsIncoming s →
    Takes was now t block → length block ≡ m →
    IsToCome was k line (never_given (last.listed c s) (last.lines c s)) →
    StandingGoesOn behind last → behind.lines c s ≡ now → behind.listed c s ≡ t.failed →
    (t.count < m → behind.over c ≡ true) →
    GaveBlock m k line (never_given (last.listed c s) (last.lines c s)) (last.listed c s) now t block
given m c s k line was now t block behind last i h long told on here listed ends =
    let ys = still_told was.to_come now.to_come (take t.count block) _ h.given told in
    let met = meets m c s behind last t ys.0 i on (ap (λ (l : LineState). l.to_come) here ∙ ys.1) listed (omega (arith, h.bound, long))
    (λ e. let l = h.short e in omega (arith, l, long)) ends in
    gave m k line (never_given (last.listed c s) (last.lines c s)) (last.listed c s) was now t block h long told
    (subst (λ (l : LineState). Meets m (never_given (last.listed c s) (last.lines c s)) (last.listed c s) l t) here met)

-- What a round took of an open call's lines, and what is to come of them.
pub record IsMet (r : Run) (ds : List Done) (t n c : ℕ) (now : Side → LineState) (x : PortionMemory) (last : Standing) : Type 0 where
  pub taken : IsTaken r ds t n c x.lines x.up x.pcm
  pub up_left : IsToCome (now Up) (40 * (t - start_of ds c) + 40 * n) (r.lines c).up (never_given (last.listed c Up) (last.lines c Up))
  pub pcm_left : IsToCome (now Pcm) (160 * (t - start_of ds c) + 160 * n) (r.lines c).pcm
      (never_given (last.listed c Pcm) (last.lines c Pcm))

-- **What a round took of an open call's lines is what the run says, whether a line fails in it, later or never.**
pub met : (r : Run) (ds : List Done) (t n c : ℕ) (before now : Side → LineState) (s x : PortionMemory) (behind last : Standing) →
    Fills before now s x → x.lines.call ≡ c → x.lines.periods ≡ n → length x.up ≡ 40 * n → length x.pcm ≡ 160 * n →
    StandingGoesOn behind last → (r.lines c).up_failed ≡ last.listed c Up → (r.lines c).pcm_failed ≡ last.listed c Pcm →
    ((side : Side) → IsIncoming side → behind.listed c side ≡ fails_in x.lines side) →
    (round_lines.whole_in x.lines < n → behind.over c ≡ true) →
    ((side : Side) → IsIncoming side → behind.lines c side ≡ now side) →
    IsToCome (before Up) (40 * (t - start_of ds c)) (r.lines c).up (never_given (last.listed c Up) (last.lines c Up)) →
    IsToCome (before Pcm) (160 * (t - start_of ds c)) (r.lines c).pcm (never_given (last.listed c Pcm) (last.lines c Pcm)) →
    IsMet r ds t n c now x last
met r ds t n c before now s x behind last f called long up_long pcm_long on up_flag pcm_flag listed over here up_told pcm_told =
    let up = given (40 * n) c Up (40 * (t - start_of ds c)) (r.lines c).up (before Up) (now Up) x.lines.up x.up behind last tt f.up up_long up_told on
    (here Up tt) (listed Up tt) (λ l. over (fewer_up x.lines l)) in
    let pcm = given (160 * n) c Pcm (160 * (t - start_of ds c)) (r.lines c).pcm (before Pcm)
    (now Pcm) x.lines.pcm x.pcm behind last tt f.pcm pcm_long pcm_told on (here Pcm tt) (listed Pcm tt) (λ l. over (fewer_pcm x.lines l)) in
    record {
      taken = record {
        call = called;
        periods = long;
        up_count = up.count;
        pcm_count = pcm.count;
        up_failed = λ l. up.fails l ∙ sym up_flag;
        pcm_failed = λ l. pcm.fails l ∙ sym pcm_flag;
        up_octets = up.octets;
        pcm_octets = pcm.octets;
      };
      up_left = up.left;
      pcm_left = pcm.left;
    }
  where
    fewer_up : (p : LinesMemory) → p.up.count < 40 * n → round_lines.whole_in p < n
    fewer_up p l = by p.up.count p.pcm.count l
      where
        by : (u v : ℕ) → u < 40 * n → min (u / 40) (v / 160) < n
        by u v l = omega arith

    fewer_pcm : (p : LinesMemory) → p.pcm.count < 160 * n → round_lines.whole_in p < n
    fewer_pcm p l = by p.up.count p.pcm.count l
      where
        by : (u v : ℕ) → v < 160 * n → min (u / 40) (v / 160) < n
        by u v l = omega arith
