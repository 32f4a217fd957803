-- The sums of lines: a table of zeros, and those of a round.
use Rattle.std.proofs.Common.{◌≡◌, refl, sym, ap, ◌∙◌, subst, ℕ, zero, suc, ◌+◌, ◌%◌, ◌^◌, ◌<◌, ◌≤◌, List, length, get_or, replicate, slice_index_or, sum}
use Rattle.std.proofs.Common.{arith, inl, inr}
use Rattle.std.proofs.Math.ListN.{set}
use Rattle.std.proofs.lemmas.Bool.{cases_lt}
use Rattle.std.proofs.lemmas.List.{get_or_default, get_or-set_same, get_or-set_other}
use Rattle.trau_io.specs.declared.line.Line.{Line}
use Rattle.trau_io.specs.declared.line.Side.{Side}
use Rattle.trau_io.specs.declared.line.Side.TheVariants.{Up, Pcm, Down, Out}
use Rattle.trau_io.specs.Indices.{number_of_side, index_of_line}
use Rattle.trau_io.proofs.Tables.{number_of_side-below}
use Rattle.round_lines.specs.Portions.{PortionMemory, down_given, out_given}
use Rattle.round_lines.specs.Rounds.{Rising, IsOutgoing, portion_at, call_at}
use Rattle.farm_rounds.specs.Sums.{AddsPortion, no_sums, sum_in}

-- a table of zeros has zeros
zeros : (n i : ℕ) → ◌≡◌ {A = ℕ} (slice_index_or (replicate n 0) i 0) 0
zeros zero i = refl
zeros (suc n) zero = refl
zeros (suc n) (suc i) = zeros n i

-- a table of zeros has no sum
pub no_sum : (n : ℕ) (sums : List ℕ) → sums ≡ replicate n 0 → sum_in sums ≡ no_sums
no_sum n sums made = λ i. λ c side. (ap (λ (xs : List ℕ). sum_in xs c side) made ∙ zeros n (index_of_line c side)) i

-- octets are added at the index of their line
pub added_here : (sums old octets : List ℕ) (call at n a b : ℕ) (side : Side) → sums ≡ old → at ≡ index_of_line call side → at < length sums →
    n ≡ sum octets % 2 ^ 32 → a ≡ get_or sums at a → b ≡ (a + n) % 2 ^ 32 →
    sum_in (set sums at b) call side ≡ (sum_in old call side + sum octets) % 2 ^ 32
added_here sums old octets call at n a b side same here within of before new =
    let was : a ≡ get_or sums at 0 = before ∙ get_or_default sums at a 0 within in
    subst (λ (k : ℕ). get_or (set sums at b) k 0 ≡ (get_or sums k 0 + sum octets) % 2 ^ 32) here
    (get_or-set_same sums at b 0 within ∙ new ∙ omega (arith, was, of))
    ∙ ap (λ (xs : List ℕ). (sum_in xs call side + sum octets) % 2 ^ 32) same

-- a side has a number of its own, below 4
side_numbered : ℕ → Side
side_numbered zero = Up
side_numbered (suc zero) = Pcm
side_numbered (suc (suc zero)) = Down
side_numbered (suc (suc (suc n))) = Out

numbered_back : (s : Side) → side_numbered (number_of_side s) ≡ s
unfolding side_numbered
numbered_back Up = refl
numbered_back Pcm = refl
numbered_back Down = refl
numbered_back Out = refl

-- The sums at the numbers of other lines are unchanged.
pub added_elsewhere : (sums old : List ℕ) (call at b : ℕ) (side : Side) → sums ≡ old → at ≡ index_of_line call side →
    (c : ℕ) (s : Side) → (c ≡ call → s ≡ side → ⊥) → sum_in (set sums at b) c s ≡ sum_in old c s
added_elsewhere sums old call at b side same here c s other =
    get_or-set_other sums at (index_of_line c s) b 0
    (λ e.
    let low = number_of_side-below s in
    let less = number_of_side-below side in
    let sides : number_of_side s ≡ number_of_side side = omega arith in
    other (omega arith) (sym (numbered_back s) ∙ ap side_numbered sides ∙ numbered_back side))
    ∙ ap (λ (xs : List ℕ). sum_in xs c s) same

-- both lines of a portion, one after the other
pub both_added : (portion : PortionMemory) (a b d : ℕ → Side → ℕ) (l m : Line) → l.call ≡ portion.lines.call → l.side ≡ Down → m.call ≡ portion.lines.call →
    m.side ≡ Out → b l.call l.side ≡ (a l.call l.side + sum (down_given portion)) % 2 ^ 32 →
    ((e : ℕ) (s : Side) → (e ≡ l.call → s ≡ l.side → ⊥) → b e s ≡ a e s) → d m.call m.side ≡ (b m.call m.side + sum (out_given portion)) % 2 ^ 32 →
    ((e : ℕ) (s : Side) → (e ≡ m.call → s ≡ m.side → ⊥) → d e s ≡ b e s) → AddsPortion portion a d
both_added portion a b d l m l_call l_side m_call m_side down first out second =
    let c = portion.lines.call in
    let down_added : b c Down ≡ (a c Down + sum (down_given portion)) % 2 ^ 32 =
    subst (λ (n : ℕ). b n Down ≡ (a n Down + sum (down_given portion)) % 2 ^ 32) l_call
    (subst (λ (s : Side). b l.call s ≡ (a l.call s + sum (down_given portion)) % 2 ^ 32) l_side down) in
    let out_added : d c Out ≡ (b c Out + sum (out_given portion)) % 2 ^ 32 =
    subst (λ (n : ℕ). d n Out ≡ (b n Out + sum (out_given portion)) % 2 ^ 32) m_call
    (subst (λ (s : Side). d m.call s ≡ (b m.call s + sum (out_given portion)) % 2 ^ 32) m_side out) in record {
      down = second c Down (λ p q. other_side (sym (q ∙ m_side))) ∙ down_added;
      out = out_added ∙ ap (λ (n : ℕ). (n + sum (out_given portion)) % 2 ^ 32) (first c Out (λ p q. other_side (q ∙ l_side)));
      others = λ e s none. second e s (λ p q. none (p ∙ m_call) (subst IsOutgoing (sym (q ∙ m_side)) tt))
          ∙ first e s (λ p q. none (p ∙ l_call) (subst IsOutgoing (sym (q ∙ l_side)) tt));
    }
  where
    other_side : Out ≡ Down → ⊥
    other_side same = absurd (cc)

-- the first n portions of a round
pub record AddsFirst (n : ℕ) (portions : List PortionMemory) (before now : ℕ → Side → ℕ) : Type 0 where
  pub down : (k : ℕ) → k < n → now (call_at portions k) Down ≡ (before (call_at portions k) Down + sum (down_given (portion_at portions k))) % 2 ^ 32
  pub out : (k : ℕ) → k < n → now (call_at portions k) Out ≡ (before (call_at portions k) Out + sum (out_given (portion_at portions k))) % 2 ^ 32
  pub others : (c : ℕ) (s : Side) → ((k : ℕ) → k < n → c ≡ call_at portions k → IsOutgoing s → ⊥) → now c s ≡ before c s

-- one portion more
pub added_more : (n : ℕ) (portions : List PortionMemory) (a b d : ℕ → Side → ℕ) → Rising portions → n < length portions → AddsFirst n portions a b →
    AddsPortion (portion_at portions n) b d → AddsFirst (n + 1) portions a d
added_more n portions a b d rising within first new = record {
  down = λ k less. elim (cases_lt k n) [
    | inl earlier ↦ new.others (call_at portions k) Down (λ same out. apart k earlier (sym same)) ∙ first.down k earlier
    | inr here ↦ subst (λ (k : ℕ). d (call_at portions k) Down ≡ (a (call_at portions k) Down + sum (down_given (portion_at portions k))) % 2 ^ 32) (is k less here)
        (new.down
        ∙ ap (λ (m : ℕ). (m + sum (down_given (portion_at portions n))) % 2 ^ 32) (first.others (call_at portions n) Down (λ k earlier same out. apart k earlier same)))
  ];
  out = λ k less. elim (cases_lt k n) [
    | inl earlier ↦ new.others (call_at portions k) Out (λ same out. apart k earlier (sym same)) ∙ first.out k earlier
    | inr here ↦ subst (λ (k : ℕ). d (call_at portions k) Out ≡ (a (call_at portions k) Out + sum (out_given (portion_at portions k))) % 2 ^ 32) (is k less here)
        (new.out
        ∙ ap (λ (m : ℕ). (m + sum (out_given (portion_at portions n))) % 2 ^ 32) (first.others (call_at portions n) Out (λ k earlier same out. apart k earlier same)))
  ];
  others =
      λ c s none. new.others c s (λ same out. none n (omega arith) same out)
      ∙ first.others c s (λ k earlier same out. none k (omega (arith, earlier)) same out);
}
  where
    apart : (k : ℕ) → k < n → call_at portions n ≡ call_at portions k → ⊥
    apart k earlier same = let rises = rising k n earlier within in omega (arith, rises, same)

    is : (k : ℕ) → k < n + 1 → n ≤ k → n ≡ k
    is k less here = omega (arith, less, here)
