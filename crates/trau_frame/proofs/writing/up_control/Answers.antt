use Rattle.std.proofs.Common.{◌≡◌, ◌+◌, ◌<◌, ℕ, List, length, get_or, set, sym, ◌∙◌, subst, inl, inr, arith}
use Rattle.std.proofs.lemmas.Bool.{cases_eq}
use Rattle.std.proofs.lemmas.List.{length-set, get_or-set_same, get_or-set_other, get_or_default}
use Rattle.std.proofs.lemmas.List.FromFn.{length-map-range_with_len, get_or-map-range_with_len}
use Rattle.std.proofs.lemmas.Grind.{same_number_lists}
use Rattle.trau_frame.specs.UpFrame.{up_words_of}
use Rattle.trau_frame.specs.UpBits.{up_control_bit, up_control}
use Rattle.trau_frame.proofs.writing.up_control.Goals as goal

-- what holds at each place that is written still does after the next
each_next : (P : ℕ → ℕ → Type 0) (xs : List ℕ) (i x : ℕ) → i < length xs → P i x → ((k : ℕ) → k < i → P k (get_or xs k 0)) →
    (k : ℕ) → k < i + 1 → P k (get_or (set xs i x) k 0)
each_next P xs i x l here h k m = elim (cases_eq k i) [
  | inl e ↦ rw (e, get_or-set_same xs i x 0 l) here
  | inr n ↦ rw (get_or-set_other xs i k x 0 n) (h k (omega arith))
]

pub loop-c-preserved : goal.loop-c-preserved
loop-c-preserved c =
    let all = c.loop-c.invariant in
    let bit = c.up_control_bit.result in
    let inside : c.loop-c.c < length c.loop-c.control = omega (arith, all.count) in
    record {
      count = length-set c.loop-c.control c.loop-c.c bit ∙ all.count;
      each = each_next (λ (k b : ℕ). b ≡ up_control_bit (up_words_of c.args.f.now) (k + 1)) c.loop-c.control c.loop-c.c bit inside
          c.up_control_bit.ensures.value
          all.each;
      bits = each_next (λ (k b : ℕ). b < 2) c.loop-c.control c.loop-c.c bit inside c.up_control_bit.ensures.bit all.bits;
    }

pub returns-clause-value : goal.returns-clause-value
unfolding up_control
returns-clause-value c =
    let all = c.loop-c.invariant in
    same_number_lists c.loop-c.control _ (all.count ∙ sym (length-map-range_with_len (up_control_bit (up_words_of c.args.f.now)) 1 21)) (λ k below.
    let count : length c.loop-c.control ≡ 21 = all.count in
    let inside : k < 21 = omega arith in
    all.each k (omega arith) ∙ sym (get_or-map-range_with_len (up_control_bit (up_words_of c.args.f.now)) 1 21 k (k + 1) 0 inside (omega arith)))

pub returns-clause-are_bits : goal.returns-clause-are_bits
returns-clause-are_bits c = λ k d below.
    let all = c.loop-c.invariant in
    let count : length c.loop-c.control ≡ 21 = all.count in
    subst (λ b. b < 2) (get_or_default c.loop-c.control k 0 d below) (all.bits k (omega arith))
