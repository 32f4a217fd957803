-- A run goes on from clock to clock, and each of its rounds meets it.
use Rattle.std.proofs.Common.{◌≡◌, refl, sym, ap, ◌∙◌, ℕ, ◌+◌, ◌<◌, ◌≤◌, Bool, true, false, Option, Some, List, [], ◌++◌, take, drop, inl, inr, arith}
use Rattle.std.proofs.Common.{append-nil}
use Rattle.std.specs.Prelude.{unwrap_or}
use Rattle.std.proofs.lemmas.Bool.{cases_lt, true≢false}
use Rattle.std.proofs.lemmas.List.{take-append-drop, drop-drop}
use Rattle.trau_io.specs.declared.line.Side.{Side}
use Rattle.trau_io.specs.Lines.{LineState}
use Rattle.round_lines.specs.declared.transfer.Taken.{Taken}
use Rattle.round_lines.specs.Rounds.{IsIncoming}
use Rattle.trau_io.specs.declared.line.Line.{Line}
use Rattle.switchboard.specs.State.{State}
use Rattle.farm_run.specs.Runs.{IsGiven, ReadsOn, is_listed}
use Rattle.farm_run.specs.Standing.{Standing, standing, is_over, StandingGoesOn, never_given}

-- **Nothing has happened.**
pub stays : (a : Standing) → StandingGoesOn a a
stays a = record {
  over = λ c e. e;
  read_on = λ c s octets i e. (0, e);
  lines = λ c s i e. refl;
  listed = λ c s i e. refl;
}

-- **One step after another.**
pub further : (a b c : Standing) → StandingGoesOn a b → StandingGoesOn b c → StandingGoesOn a c
further a b c g h = record {
  over = λ d e. h.over d (g.over d e);
  read_on = λ d s octets i e.
      let k = g.read_on d s octets i e in
      let l = h.read_on d s (drop k.0 octets) i k.1 in
      (k.0 + l.0, l.1 ∙ ap Some (drop-drop l.0 k.0 octets));
  lines = λ d s i e. h.lines d s i (g.over d e) ∙ g.lines d s i e;
  listed = λ d s i e. h.listed d s i (g.over d e) ∙ g.listed d s i e;
}

-- **What was read on is read on further.**
pub reads_more : (first before now : ℕ → Side → LineState) → ReadsOn first before → ReadsOn before now → ReadsOn first now
reads_more first before now g h d s octets i e =
    let k = g d s octets i e in
    let l = h d s (drop k.0 octets) i k.1 in
    (k.0 + l.0, l.1 ∙ ap Some (drop-drop l.0 k.0 octets))

-- **Orders come in front of what comes next.**
pub ordered : (b b' : State) (was is : List Line) (lines : ℕ → Side → LineState) (last : Standing) →
    ((c : ℕ) → is_over b c ≡ true → is_over b' c ≡ true) →
    is ≡ was → StandingGoesOn (standing b' is lines) last → StandingGoesOn (standing b was lines) last
ordered b b' was is lines last over same on = record {
  over = λ c e. on.over c (over c e);
  read_on = on.read_on;
  lines = λ c s i e. on.lines c s i (over c e);
  listed = λ c s i e. on.listed c s i (over c e) ∙ ap (λ (ls : List Line). is_listed ls c s) same;
}

-- **What a run's line told before it.**
pub told_first : (fails : Bool) (before now : LineState) (octets : List ℕ) → IsGiven fails before now octets →
    before.to_come ≡ Some (octets ++ never_given fails now)
told_first false before now octets e = e ∙ ap Some (sym (append-nil octets))
told_first true before now octets e = e.1 ∙ ap (λ (u : Option (List ℕ)). Some (octets ++ unwrap_or u [])) (sym e.2)

-- How a round's read of at most m octets agrees with the run. `failing` says whether the line fails in the run, `rest`
-- is what it never gives, `now` the line after the read, and `t` what was read.
pub record Meets (m : ℕ) (rest : List ℕ) (failing : Bool) (now : LineState) (t : Taken) : Type 0 where
  -- a line that doesn't fail in the run gives all
  pub whole : failing ≡ false → rest ≡ []
  -- a line that failed in this read fails in the run, and at this point
  pub here : t.failed ≡ true → (failing ≡ true) × (now.to_come ≡ Some rest)
  -- a line that fails later in the run gave all m octets, and what it never gives is still to come
  pub ahead : t.failed ≡ false → failing ≡ true →
      (t.count ≡ m) × ((x : List ℕ) × (now.to_come ≡ Some (x ++ rest)))

-- **A round of a run that goes on to its end meets it.**
pub meets : (m : ℕ) (c : ℕ) (s : Side) (now last : Standing) (t : Taken) (ys : List ℕ) → IsIncoming s → StandingGoesOn now last →
    (now.lines c s).to_come ≡ Some ys → now.listed c s ≡ t.failed → t.count ≤ m →
    (t.failed ≡ true → t.count < m) → (t.count < m → now.over c ≡ true) →
    Meets m (never_given (last.listed c s) (last.lines c s)) (last.listed c s) (now.lines c s) t
meets m c s now last t ys i g told listed bound short ends = record {
  whole = λ e. ap (λ (b : Bool). never_given b (last.lines c s)) e;
  here = here;
  ahead = ahead;
}
  where
    rest : List ℕ
    rest = never_given (last.listed c s) (last.lines c s)

    fails : last.listed c s ≡ true → rest ≡ unwrap_or (last.lines c s).to_come []
    fails e = ap (λ (b : Bool). never_given b (last.lines c s)) e

    here : t.failed ≡ true → (last.listed c s ≡ true) × ((now.lines c s).to_come ≡ Some rest)
    here e =
        let over = ends (short e) in
        let failed : last.listed c s ≡ true = g.listed c s i over ∙ listed ∙ e in
        let left : rest ≡ ys = fails failed ∙ ap (λ (u : Option (List ℕ)). unwrap_or u []) (g.lines c s i over ∙ told) in
        (failed, told ∙ ap Some (sym left))

    ahead : t.failed ≡ false → last.listed c s ≡ true → (t.count ≡ m) × ((x : List ℕ) × ((now.lines c s).to_come ≡ Some (x ++ rest)))
    ahead e f =
        let on = g.read_on c s ys i told in
        let left : rest ≡ drop on.0 ys = fails f ∙ ap (λ (u : Option (List ℕ)). unwrap_or u []) on.1 in
        (full, (take on.0 ys, told ∙ ap Some (sym (ap (λ (xs : List ℕ). take on.0 ys ++ xs) left ∙ take-append-drop on.0 ys))))
      where
        full : t.count ≡ m
        full = elim (cases_lt t.count m) [
          | inl l ↦ absurd (true≢false (sym f ∙ g.listed c s i (ends l) ∙ listed ∙ e))
          | inr l ↦ omega (arith, l, bound)
        ]
