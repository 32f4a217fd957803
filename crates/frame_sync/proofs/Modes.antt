-- The mode of the search by the yields so far, and what it gives next: the definition of all yields, met by the
-- machine.
use Rattle.std.proofs.Common.{◌≡◌, ℕ, zero, suc, ◌+◌, ◌<◌, ◌≤◌, Bool, true, false, List, [], ◌∷◌, ◌++◌, append_assoc, length, reverse, refl, sym, ap, ◌∙◌}
use Rattle.std.proofs.Common.{subst, arith, inl, inr}
use Rattle.std.proofs.lemmas.Bool.{cases_eq, eq-eqb, ne_eqb, lt-leb, le-leb}
use Rattle.std.proofs.lemmas.List.{append-nil, reverse-append}
use Rattle.trau_frame.specs.Match.{bit_in, is_match, frame_at}
use Rattle.frame_sync.specs.declared.yields.Mode.{Mode}
use Rattle.frame_sync.specs.declared.yields.Mode.TheVariants.{Hunting, Locked}
use Rattle.frame_sync.specs.declared.yields.Yield.{Yield}
use Rattle.frame_sync.specs.declared.yields.Yield.TheVariants.{Frame, Miss}
use Rattle.frame_sync.specs.Yields.{NoMatch, IsFirstMatch, frame_or_miss, place_of, end_of_yields, misses_to_hunt, misses_in_row, hunts, IsNextYield, Yields}
use Rattle.frame_sync.specs.Periods.{after_miss}

-- ---- what a mode gives

-- in the first mode the bits give this yield, and the second mode follows
abbrev pub Gives : List ℕ → Mode → Yield → Mode → Type 0
Gives bits (Hunting low) (Frame p f) after =
    (low ≤ p) × NoMatch (bit_in bits) low p × (is_match (bit_in bits) p ≡ true) ×
    (p + 320 ≤ length bits) × (f ≡ frame_at (bit_in bits) p) × (after ≡ Locked (p + 320) 0)
Gives bits (Hunting low) (Miss p) after = ⊥
Gives bits (Locked next misses) (Frame p f) after =
    (p ≡ next) × (is_match (bit_in bits) p ≡ true) ×
    (p + 320 ≤ length bits) × (f ≡ frame_at (bit_in bits) p) × (after ≡ Locked (p + 320) 0)
Gives bits (Locked next misses) (Miss p) after =
    (p ≡ next) × (is_match (bit_in bits) p ≡ false) ×
    (p + 320 ≤ length bits) × (after ≡ after_miss p misses)

-- one yield after another
abbrev pub GiveAll : List ℕ → Mode → List Yield → Mode → Type 0
GiveAll bits mode [] last = last ≡ mode
GiveAll bits mode (y ∷ ys) last = (after : Mode) × Gives bits mode y after × GiveAll bits after ys last

-- no further yield has its last bit among the first `end` bits
abbrev pub NoneEnds : List ℕ → ℕ → Mode → Type 0
NoneEnds bits end (Hunting low) = (q : ℕ) → low ≤ q → q + 320 ≤ end → is_match (bit_in bits) q ≡ false
NoneEnds bits end (Locked next misses) = end < next + 320

-- ---- the mode by the yields so far, the newest first

-- the newest are so many misses behind a frame
abbrev Missed : ℕ → List Yield → Type 0
Missed zero (Frame p f ∷ older) = Unit {0}
Missed (suc k) (Miss p ∷ older) = Missed k older
Missed k past = ⊥

-- how the mode and the yields so far go together
abbrev pub Tied : List Yield → Mode → Type 0
Tied past (Hunting low) = (hunts past ≡ true) × (end_of_yields past ≡ low)
Tied past (Locked next misses) = (end_of_yields past ≡ next) × (misses < misses_to_hunt) × Missed misses past

-- so many are the misses in a row
misses_in_row-Missed : (k : ℕ) (past : List Yield) → Missed k past → misses_in_row past ≡ k
misses_in_row-Missed zero [] m = absurd m
misses_in_row-Missed zero (Frame p f ∷ older) m = refl
misses_in_row-Missed zero (Miss p ∷ older) m = absurd m
misses_in_row-Missed (suc k) [] m = absurd m
misses_in_row-Missed (suc k) (Frame p f ∷ older) m = absurd m
misses_in_row-Missed (suc k) (Miss p ∷ older) m = ap suc (misses_in_row-Missed k older m)

-- fewer misses keep the lock
missed-locked : (k : ℕ) (past : List Yield) → k < misses_to_hunt → Missed k past → hunts past ≡ false
missed-locked zero [] l m = absurd m
missed-locked (suc k) [] l m = absurd m
missed-locked k (y ∷ older) l m =
    let count = misses_in_row-Missed k (y ∷ older) m in
    lt-leb misses_to_hunt (misses_in_row (y ∷ older)) (omega arith)

-- the last one gives it up
last-hunts : (p misses : ℕ) (past : List Yield) → misses + 1 ≡ misses_to_hunt → Missed misses past → hunts (Miss p ∷ past) ≡ true
last-hunts p misses past last m =
    let count = misses_in_row-Missed misses past m in
    le-leb misses_to_hunt (suc (misses_in_row past)) (omega arith)

-- so they go together after a miss
tied-after_miss : (past : List Yield) (p misses : ℕ) → misses < misses_to_hunt → Missed misses past → Tied (Miss p ∷ past) (after_miss p misses)
tied-after_miss past p misses l m = elim (cases_eq (misses + 1) misses_to_hunt) [
  | inl last ↦ rw (eq-eqb (misses + 1) misses_to_hunt last) (last-hunts p misses past last m, refl)
  | inr less ↦
      let next : suc misses ≡ misses + 1 = omega arith in
      rw (ne_eqb (misses + 1) misses_to_hunt less) (refl, omega arith, subst (λ k. Missed k (Miss p ∷ past)) next m)
]

-- and after any yield
tied-gives : (bits : List ℕ) (past : List Yield) (mode : Mode) (y : Yield) (after : Mode) → Tied past mode → Gives bits mode y after → Tied (y ∷ past) after
tied-gives bits past (Hunting low) (Frame p f) after t g = subst (Tied (Frame p f ∷ past)) (sym g.5) (refl, omega arith, tt)
tied-gives bits past (Hunting low) (Miss p) after t g = absurd g
tied-gives bits past (Locked next misses) (Frame p f) after t g = subst (Tied (Frame p f ∷ past)) (sym g.4) (refl, omega arith, tt)
tied-gives bits past (Locked next misses) (Miss p) after t g =
    subst (Tied (Miss p ∷ past)) (sym g.3) (tied-after_miss past p misses t.1 t.2)

-- ---- what the mode gives follows

pub both_ways : (b : Bool) → b ≡ true → b ≡ false → ⊥
both_ways b t f = cc

-- a frame and a miss are what the place says
frame-kind : (line : ℕ → ℕ) (p : ℕ) (f : List ℕ) → is_match line p ≡ true → f ≡ frame_at line p → Frame p f ≡ frame_or_miss line p
frame-kind line p f m e = rw m (ap (Frame p) e)

miss-kind : (line : ℕ → ℕ) (p : ℕ) → is_match line p ≡ false → Miss p ≡ frame_or_miss line p
miss-kind line p m = rw m refl

-- what the search gives follows the yields before it
gives-follows : (bits : List ℕ) (past : List Yield) (mode : Mode) (y : Yield) (after : Mode) → Tied past mode → Gives bits mode y after →
    IsNextYield bits past y
gives-follows bits past (Hunting low) (Frame p f) after t g = record {
  hunting = λ h. subst (λ n. IsFirstMatch (bit_in bits) n p) (sym t.1) (g.0, g.1, g.2);
  locked = λ h. absurd (both_ways (hunts past) t.0 h);
  kind = frame-kind (bit_in bits) p f g.2 g.4;
  within = g.3;
}
gives-follows bits past (Hunting low) (Miss p) after t g = absurd g
gives-follows bits past (Locked next misses) (Frame p f) after t g = record {
  hunting = λ h. absurd (both_ways (hunts past) h (missed-locked misses past t.1 t.2));
  locked = λ h. g.0 ∙ sym t.0;
  kind = frame-kind (bit_in bits) p f g.1 g.3;
  within = g.2;
}
gives-follows bits past (Locked next misses) (Miss p) after t g = record {
  hunting = λ h. absurd (both_ways (hunts past) h (missed-locked misses past t.1 t.2));
  locked = λ h. g.0 ∙ sym t.0;
  kind = miss-kind (bit_in bits) p g.1;
  within = g.2;
}

-- where none ends within the bits, no yield follows
none-follows : (bits : List ℕ) (past : List Yield) (mode : Mode) (y : Yield) → Tied past mode → NoneEnds bits (length bits) mode → IsNextYield bits past y → ⊥
none-follows bits past (Hunting low) y t none f =
    let found = f.hunting t.0 in
    let from : end_of_yields past ≤ place_of y = found.0 in
    let low_is : end_of_yields past ≡ low = t.1 in
    both_ways (is_match (bit_in bits) (place_of y)) found.2 (none (place_of y) (omega arith) f.within)
none-follows bits past (Locked next misses) y t none f =
    let place : place_of y ≡ end_of_yields past = f.locked (missed-locked misses past t.1 t.2) in
    let next_is : end_of_yields past ≡ next = t.0 in
    let within : place_of y + 320 ≤ length bits = f.within in
    absurd (omega arith)

-- ---- all of them

pub reverse-onto : (y : Yield) (ys past : List Yield) → reverse (y ∷ ys) ++ past ≡ reverse ys ++ (y ∷ past)
reverse-onto y ys past = ap (λ l. l ++ past) (reverse-append (y ∷ []) ys) ∙ append_assoc (reverse ys) (y ∷ []) past

-- each yield of a run follows those before it
follows-at : (bits : List ℕ) (past : List Yield) (mode : Mode) (before after : List Yield) (y : Yield) (last : Mode) → Tied past mode →
    GiveAll bits mode (before ++ y ∷ after) last → IsNextYield bits (reverse before ++ past) y
follows-at bits past mode [] after y last t g = gives-follows bits past mode y g.0 t g.1
follows-at bits past mode (b ∷ before) after y last t g =
    subst (λ l. IsNextYield bits l y) (sym (reverse-onto b before past))
    (follows-at bits (b ∷ past) g.0 before after y last (tied-gives bits past mode b g.0 t g.1) g.2)

-- the last mode goes with all of them
tied-last : (bits : List ℕ) (past : List Yield) (mode : Mode) (ys : List Yield) (last : Mode) → Tied past mode → GiveAll bits mode ys last →
    Tied (reverse ys ++ past) last
tied-last bits past mode [] last t g = subst (Tied past) (sym g) t
tied-last bits past mode (y ∷ ys) last t g =
    subst (λ l. Tied l last) (sym (reverse-onto y ys past)) (tied-last bits (y ∷ past) g.0 ys last (tied-gives bits past mode y g.0 t g.1) g.2)

-- so they are all yields of the bits
pub all-follow : (bits : List ℕ) (ys : List Yield) (last : Mode) → GiveAll bits (Hunting 0) ys last → NoneEnds bits (length bits) last → Yields bits ys
all-follow bits ys last g none = (
  λ before after y e.
      subst (λ l. IsNextYield bits l y) (append-nil (reverse before))
      (follows-at bits [] (Hunting 0) before after y last (refl, refl) (subst (λ l. GiveAll bits (Hunting 0) l last) e g)),
  λ y f.
      none-follows bits (reverse ys) last y
      (subst (λ l. Tied l last) (append-nil (reverse ys)) (tied-last bits [] (Hunting 0) ys last (refl, refl) g)) none f,
)
