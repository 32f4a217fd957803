-- For crates above: what holds of the portions so far holds with one more, whatever is done to each (`each_more`,
-- `keeps_more`, `same_from_more`).
use Rattle.std.proofs.Common.{◌≡◌, sym, ap, ◌∙◌, subst, ℕ, ◌+◌, ◌<◌, ◌≤◌, ◌≢◌, List, length, set, arith, inl, inr}
use Rattle.std.proofs.lemmas.Bool.{cases_lt}
use Rattle.std.proofs.lemmas.List.{length-set, get_or-set_same, get_or-set_other}
use Rattle.trau_io.specs.declared.line.Side.{Side}
use Rattle.trau_io.specs.Lines.{LineState}
use Rattle.round_lines.specs.Portions.{PortionMemory}
use Rattle.round_lines.specs.Rounds.{no_portion, portion_at, call_at, Rising, Each, KeepsBut, KeepsButEach}

abbrev States : Type 0
States = ℕ → Side → LineState

-- from place n on the portions are as they were
abbrev pub SameFrom : List PortionMemory → List PortionMemory → ℕ → Type 0
SameFrom ss ts n = (length ts ≡ length ss) × ((k : ℕ) → n ≤ k → portion_at ts k ≡ portion_at ss k)

apart : (ss : List PortionMemory) (i k : ℕ) → Rising ss → i < length ss → k < i → call_at ss i ≡ call_at ss k → ⊥
apart ss i k rising within less same = let rises = rising k i less within in omega arith

pub each_more : (Touched : Side → Type 0) (Relates : (Side → LineState) → (Side → LineState) → PortionMemory → PortionMemory → Type 0) (a b c : States)
    (ss ts : List PortionMemory) (i : ℕ) (t : PortionMemory) → Rising ss → SameFrom ss ts i → i < length ss → Each Relates a b ss ts i →
    KeepsButEach Touched a b ss i → Relates (b (call_at ts i)) (c (call_at ts i)) (portion_at ts i) t →
    KeepsBut Touched b c (call_at ts i) → Each Relates a c ss (set ts i t) (i + 1)
each_more Touched Relates a b c ss ts i t rising same within each rest new stays k less =
    let is : portion_at ts i ≡ portion_at ss i = same.1 i (omega arith) in
    let own : call_at ts i ≡ call_at ss i = ap (λ (s : PortionMemory). s.lines.call) is in
    elim (cases_lt k i) [
      | inl earlier ↦
          let other : k ≢ i = omega arith in
          let now : c (call_at ss k) ≡ b (call_at ss k) = λ j. λ side. stays (call_at ss k) side
          (λ p touched. apart ss i k rising within earlier (sym own ∙ sym p)) j in
          subst (λ (s : PortionMemory). Relates (a (call_at ss k)) (c (call_at ss k)) (portion_at ss k) s) (sym (get_or-set_other ts i k t no_portion other))
          (subst (λ (lines : Side → LineState). Relates (a (call_at ss k)) lines (portion_at ss k) (portion_at ts k)) (sym now) (each k earlier))
      | inr here ↦
          let at : i ≡ k = omega arith in
          let before : b (call_at ss i) ≡ a (call_at ss i) = λ j. λ side. rest (call_at ss i) side (λ n earlier p touched. apart ss i n rising within earlier p)
          j in
          let put : t ≡ portion_at (set ts i t) i = sym (get_or-set_same ts i t no_portion (omega (arith, same.0, within))) in
          subst (λ (k : ℕ). Relates (a (call_at ss k)) (c (call_at ss k)) (portion_at ss k) (portion_at (set ts i t) k)) at
          (subst (λ (s : PortionMemory). Relates (a (call_at ss i)) (c (call_at ss i)) (portion_at ss i) s) put
          (subst (λ (lines : Side → LineState). Relates lines (c (call_at ss i)) (portion_at ss i) t) before
          (subst (λ (s : PortionMemory). Relates (b s.lines.call) (c s.lines.call) s t) is new)))
    ]

pub keeps_more : (Touched : Side → Type 0) (a b c : States) (ss ts : List PortionMemory) (i : ℕ) → SameFrom ss ts i → KeepsButEach Touched a b ss i →
    KeepsBut Touched b c (call_at ts i) → KeepsButEach Touched a c ss (i + 1)
keeps_more Touched a b c ss ts i same rest stays call side none =
    stays call side (λ p touched. none i (omega arith) (p ∙ ap (λ (s : PortionMemory). s.lines.call) (same.1 i (omega arith))) touched)
    ∙ rest call side (λ k less p touched. none k (omega arith) p touched)

pub same_from_more : (ss ts : List PortionMemory) (i : ℕ) (t : PortionMemory) → SameFrom ss ts i → SameFrom ss (set ts i t) (i + 1)
same_from_more ss ts i t same = (
  length-set ts i t ∙ same.0,
  λ k later. let other : k ≢ i = omega arith in get_or-set_other ts i k t no_portion other
      ∙ same.1 k (omega arith),
)

pub still_rising : (ss ts : List PortionMemory) → Rising ss → length ts ≡ length ss → ((k : ℕ) → k < length ss → call_at ts k ≡ call_at ss k) → Rising ts
still_rising ss ts rising number calls i j less within =
    let inside : j < length ss = omega (arith, number, within) in
    let first = calls i (omega arith) in
    let second = calls j inside in
    let rises = rising i j less inside in
    omega (arith, first, second, rises)
