-- For crates above: what the search yields carries a frame (`carries-searched`).
-- What one period of the search gives.
use Rattle.std.proofs.Common.{◌≡◌, ℕ, ◌+◌, ◌-◌, ◌<◌, ◌≤◌, max, Bool, true, false, List, get_or, Option, Some, None, IfSome, refl, sym, ap, ◌∙◌, subst, arith}
use Rattle.std.proofs.Common.{inl, inr}
use Rattle.std.specs.Option.{MatchOption}
use Rattle.std.proofs.lemmas.Bool.{cases_eq, eq-eqb, ne_eqb}
use Rattle.trau_frame.specs.Frame.{Synced}
use Rattle.frame_sync.specs.declared.yields.Ending.TheVariants.{Nothing, Framed, Missed}
use Rattle.frame_sync.specs.declared.yields.Mode.{Mode}
use Rattle.frame_sync.specs.declared.yields.Mode.TheVariants.{Hunting, Locked}
use Rattle.frame_sync.specs.declared.yields.Yield.{Yield}
use Rattle.frame_sync.specs.declared.yields.Yield.TheVariants.{Frame}
use Rattle.trau_frame.specs.Match.{bit_in, is_match, frame_at}
use Rattle.frame_sync.specs.Yields.{misses_to_hunt, NoMatch, place_of}
use Rattle.frame_sync.specs.Periods.{after_miss, found_in, hunted, yield_due, searched, CarriesFrame}
use Rattle.frame_sync.specs.Step.{bit_of_two, ends_in_two}
use Rattle.frame_sync.specs.Memory.{IsNear}
use Rattle.trau_frame.proofs.Matches.{is_match-same, frame_at-same, length-frame_at, get_or-frame_at, match_is_synced, synced_is_match}
use Rattle.frame_sync.proofs.Found.{FoundAt, first_match-says, first_match-found, first_match-none, first_match-same}

-- ---- the mode stays near, and the yield ends in the period

-- what hunting found, by the places at which it looked
abbrev pub Looked : (ℕ → ℕ) → ℕ → ℕ → Option ℕ → Type 0
Looked line base low o =
    let first = max low (base - 319) in
    MatchOption o (NoMatch line first (first + (base + 1 - first))) (FoundAt line first (base + 1 - first))

-- what a hunt found, or that there is nothing
pub looked : (line : ℕ → ℕ) (base low : ℕ) → Looked line base low (found_in line base low)
looked line base low = first_match-says line (max low (base - 319)) (base + 1 - max low (base - 319))

-- the mode after a period fits the line again
near-hunted : (line : ℕ → ℕ) (base low : ℕ) (o : Option ℕ) → low ≤ base → Looked line base low o → IsNear (base + 320) (hunted line low o).1
near-hunted line base low None l h = (omega arith, omega arith, omega arith)
near-hunted line base low (Some p) l h =
    let from = h.from in
    let below = h.below in
    (omega arith, omega arith, omega arith)

near-after_miss : (base next misses : ℕ) → next ≤ base → base < next + 320 → misses < misses_to_hunt → IsNear (base + 320) (after_miss next misses)
near-after_miss base next misses l h m = elim (cases_eq (misses + 1) misses_to_hunt) [
  | inl last ↦ rw (eq-eqb (misses + 1) misses_to_hunt last) (omega arith, omega arith, omega arith)
  | inr less ↦ rw (ne_eqb (misses + 1) misses_to_hunt less) (omega arith, omega arith, omega arith)
]

near-due : (line : ℕ → ℕ) (base next misses : ℕ) (b : Bool) → next ≤ base → base < next + 320 → misses < misses_to_hunt →
    IsNear (base + 320) (yield_due line next misses b).1
near-due line base next misses true l h m = (omega arith, omega arith, omega arith)
near-due line base next misses false l h m = near-after_miss base next misses l h m

pub near-searched : (line : ℕ → ℕ) (base : ℕ) (mode : Mode) → IsNear base mode → IsNear (base + 320) (searched line base mode).1
unfolding searched
near-searched line base (Hunting low) n = near-hunted line base low (found_in line base low) n.0 (looked line base low)
near-searched line base (Locked next misses) n = near-due line base next misses (is_match line next) n.0 n.1 n.2

-- the last bit of a yield is in the period
abbrev pub Ends : ℕ → Yield → Type 0
Ends base y = (base ≤ place_of y + 319) × (place_of y + 319 < base + 320)

-- a yield ends in the period
ends-hunted : (line : ℕ → ℕ) (base low : ℕ) (o : Option ℕ) → Looked line base low o → IfSome (hunted line low o).0 (Ends base)
ends-hunted line base low None h = tt
ends-hunted line base low (Some p) h =
    let from = h.from in
    let below = h.below in
    (omega arith, omega arith)

ends-due : (line : ℕ → ℕ) (base next misses : ℕ) (b : Bool) → next ≤ base → base < next + 320 → IfSome (yield_due line next misses b).0 (Ends base)
ends-due line base next misses true l h = (omega arith, omega arith)
ends-due line base next misses false l h = (omega arith, omega arith)

pub ends-searched : (line : ℕ → ℕ) (base : ℕ) (mode : Mode) → IsNear base mode → IfSome (searched line base mode).0 (Ends base)
unfolding searched
ends-searched line base (Hunting low) n = ends-hunted line base low (found_in line base low) (looked line base low)
ends-searched line base (Locked next misses) n = ends-due line base next misses (is_match line next) n.0 n.1

-- ---- a frame carries bits with the sync pattern

-- a match carries a frame
carries : (line : ℕ → ℕ) (p : ℕ) → ((i : ℕ) → line i < 2) → is_match line p ≡ true → CarriesFrame (Frame p (frame_at line p))
carries line p bits m = (
  length-frame_at line p,
  λ i d below. let count = length-frame_at line p in rw (get_or-frame_at line p i d (omega arith)) (bits (p + i)),
  match_is_synced line p m,
)

carries-hunted : (line : ℕ → ℕ) (base low : ℕ) (o : Option ℕ) → ((i : ℕ) → line i < 2) → Looked line base low o → IfSome (hunted line low o).0 CarriesFrame
carries-hunted line base low None bits h = tt
carries-hunted line base low (Some p) bits h = carries line p bits h.matches

carries-due : (line : ℕ → ℕ) (next misses : ℕ) (b : Bool) → ((i : ℕ) → line i < 2) → is_match line next ≡ b →
    IfSome (yield_due line next misses b).0 CarriesFrame
carries-due line next misses true bits e = carries line next bits e
carries-due line next misses false bits e = tt

pub carries-searched : (line : ℕ → ℕ) (base : ℕ) (mode : Mode) → ((i : ℕ) → line i < 2) → IfSome (searched line base mode).0 CarriesFrame
unfolding searched
carries-searched line base (Hunting low) bits = carries-hunted line base low (found_in line base low) bits (looked line base low)
carries-searched line base (Locked next misses) bits = carries-due line next misses (is_match line next) bits refl

-- ---- only the bits of the period and of the one before count

-- two lines have the same bits there
pub record Agrees (f g : ℕ → ℕ) (base : ℕ) : Type 0 where
  pub each : (i : ℕ) → base ≤ i + 319 → i < base + 320 → f i ≡ g i

-- two lines that agree from the last period on give the same
match-agrees : (f g : ℕ → ℕ) (base p : ℕ) → Agrees f g base → base ≤ p + 319 → p ≤ base → is_match f p ≡ is_match g p
match-agrees f g base p a l h = is_match-same f g p p (λ i m. a.each (p + i) (omega arith) (omega arith))

frame-agrees : (f g : ℕ → ℕ) (base p : ℕ) → Agrees f g base → base ≤ p + 319 → p ≤ base → frame_at f p ≡ frame_at g p
frame-agrees f g base p a l h = frame_at-same f g p p (λ i m. a.each (p + i) (omega arith) (omega arith))

hunted-agrees : (f g : ℕ → ℕ) (base low : ℕ) (o : Option ℕ) → Agrees f g base → Looked f base low o → hunted f low o ≡ hunted g low o
hunted-agrees f g base low None a h = refl
hunted-agrees f g base low (Some p) a h =
    let from = h.from in
    let below = h.below in
    ap (λ bits. (Some (Frame p bits), Locked (p + 320) 0)) (frame-agrees f g base p a (omega arith) (omega arith))

due-agrees : (f g : ℕ → ℕ) (base next misses : ℕ) (b : Bool) → Agrees f g base → next ≤ base → base < next + 320 →
    yield_due f next misses b ≡ yield_due g next misses b
due-agrees f g base next misses true a l h =
    ap (λ bits. (Some (Frame next bits), Locked (next + 320) 0)) (frame-agrees f g base next a (omega arith) l)
due-agrees f g base next misses false a l h = refl

pub searched-agrees : (f g : ℕ → ℕ) (base : ℕ) (mode : Mode) → IsNear base mode → Agrees f g base → searched f base mode ≡ searched g base mode
unfolding searched
searched-agrees f g base (Hunting low) n a =
    let first : ℕ = max low (base - 319) in
    let same : found_in f base low ≡ found_in g base low =
    first_match-same f g (max low (base - 319)) (base + 1 - max low (base - 319)) (λ p l h. match-agrees f g base p a (omega arith) (omega arith)) in
    hunted-agrees f g base low (found_in f base low) a (looked f base low) ∙ ap (hunted g low) same
searched-agrees f g base (Locked next misses) n a =
    let near : base < next + 320 = n.1 in
    due-agrees f g base next misses (is_match f next) a n.0 n.1 ∙ ap (yield_due g next misses) (match-agrees f g base next a (omega arith) n.0)

-- ---- what the code looks at

-- places of the line as places in the window of two periods
shifted : (w : List ℕ) (base p o i : ℕ) → p + 320 ≡ base + o → bit_of_two base w (p + i) ≡ bit_in w (o + i)
shifted w base p o i e = let same : p + i + 320 - base ≡ o + i = omega (arith, e) in ap (λ k. get_or w k 0) same

match-shifted : (w : List ℕ) (base p o : ℕ) → p + 320 ≡ base + o → is_match (bit_of_two base w) p ≡ is_match (bit_in w) o
match-shifted w base p o e = is_match-same (bit_of_two base w) (bit_in w) p o (λ i h. shifted w base p o i e)

pub frame-shifted : (w : List ℕ) (base p o : ℕ) → p + 320 ≡ base + o → frame_at (bit_of_two base w) p ≡ frame_at (bit_in w) o
frame-shifted w base p o e = frame_at-same (bit_of_two base w) (bit_in w) p o (λ i h. shifted w base p o i e)

none-shifted : (w : List ℕ) (base first high from to : ℕ) → first + 320 ≡ base + from → high + 320 ≡ base + to →
    NoMatch (bit_in w) from to → NoMatch (bit_of_two base w) first high
none-shifted w base first high from to e f h = λ q a b.
    match-shifted w base q (q + 320 - base) (omega arith) ∙ h (q + 320 - base) (omega arith) (omega arith)

-- the four ways of a period: a hunt that finds, one that doesn't, a frame that is due, a miss
pub searched-found : (w : List ℕ) (base low first o p : ℕ) → first ≡ max low (base - 319) → low ≤ base → first + 320 - base ≤ o → o ≤ 320 →
    NoMatch (bit_in w) (first + 320 - base) o → is_match (bit_in w) o ≡ true → p ≡ base + o - 320 →
    ends_in_two base w (Framed p, Locked (p + 320) 0) ≡ searched (bit_of_two base w) base (Hunting low)
unfolding searched
searched-found w base low first o p ef l a b none m ep =
    let place : p + 320 ≡ base + o = omega arith in
    let found : found_in (bit_of_two base w) base low ≡ Some p = rw (← ef) (first_match-found (bit_of_two base w) first (base + 1 - first) p (record {
      from = omega arith;
      below = omega arith;
      before = none-shifted w base first p (first + 320 - base) o (omega arith) place none;
      matches = match-shifted w base p o place ∙ m;
    })) in
    sym (ap (hunted (bit_of_two base w) low) found)

pub searched-none : (w : List ℕ) (base low first : ℕ) → first ≡ max low (base - 319) → low ≤ base →
    NoMatch (bit_in w) (first + 320 - base) 321 → ends_in_two base w (Nothing, Hunting low) ≡ searched (bit_of_two base w) base (Hunting low)
unfolding searched
searched-none w base low first ef l none =
    let found : found_in (bit_of_two base w) base low ≡ None = rw (← ef) (first_match-none (bit_of_two base w) first (base + 1 - first)
    (none-shifted w base first (first + (base + 1 - first)) (first + 320 - base) 321 (omega arith) (omega arith) none)) in
    sym (ap (hunted (bit_of_two base w) low) found)

pub searched-frame : (w bits : List ℕ) (base next misses o : ℕ) → next + 320 ≡ base + o → bits ≡ frame_at (bit_in w) o → Synced bits →
    ends_in_two base w (Framed next, Locked (next + 320) 0) ≡ searched (bit_of_two base w) base (Locked next misses)
unfolding searched
searched-frame w bits base next misses o e eb s =
    let matches : is_match (bit_of_two base w) next ≡ true =
    match-shifted w base next o e ∙ synced_is_match (bit_in w) o (subst Synced eb s) in
    sym (ap (yield_due (bit_of_two base w) next misses) matches)

-- a test that a frame without sync bits does not pass
not_match : (line : ℕ → ℕ) (p : ℕ) (b : Bool) → is_match line p ≡ b → (Synced (frame_at line p) → ⊥) → is_match line p ≡ false
not_match line p true e h = absurd (h (match_is_synced line p e))
not_match line p false e h = e

pub searched-miss : (w bits : List ℕ) (base next misses o : ℕ) → next + 320 ≡ base + o → bits ≡ frame_at (bit_in w) o → (Synced bits → ⊥) →
    ends_in_two base w (Missed next, after_miss next misses) ≡ searched (bit_of_two base w) base (Locked next misses)
unfolding searched
searched-miss w bits base next misses o e eb unsynced =
    let misses_it : is_match (bit_of_two base w) next ≡ false =
    match-shifted w base next o e ∙ not_match (bit_in w) o (is_match (bit_in w) o) refl (λ s. unsynced (subst Synced (sym eb) s)) in
    sym (ap (yield_due (bit_of_two base w) next misses) misses_it)
