-- One call has changed in its place.
use Rattle.std.proofs.Common.{◌≡◌, refl, sym, ap, ◌∙◌, subst, ℕ, zero, suc, ◌<◌, Some, List, [], ◌∷◌, length, map, get_or, arith, inl, inr}
use Rattle.std.specs.Prelude.{◌==◌, if◌then◌else◌, slice_set, slice_index}
use Rattle.std.specs.Option.{option_map}
use Rattle.std.specs.List.{All}
use Rattle.std.specs.Global.{Box}
use Rattle.std.proofs.lemmas.Bool.{eqb-true, cases_Bool}
use Rattle.std.proofs.lemmas.List.Elements.{All-set}
use Rattle.farm_rounds.specs.declared.open.OpenCall.{OpenCall}
use Rattle.farm_rounds.specs.Calls.{Kept, kept_in}
use Rattle.farm_rounds.specs.Acts.{no_kept}
use Rattle.farm_rounds.specs.Opens.{opens_in, kept_of, IsOpenCall}
use Rattle.farm_rounds.specs.Opened.{open_at, AreListed, IsChanged}
use Rattle.farm_rounds.proofs.Places.Keyed.{IsFirst, kept_found, kept_set}
use Rattle.farm_rounds.proofs.Places.Listed.{numbers_of, number_read}

abbrev pub kepts : List (Box OpenCall) → List Kept
kepts bs = map kept_of (opens_in bs)

kept_slice : (bs : List (Box OpenCall)) (k : ℕ) (b : Box OpenCall) → kepts (slice_set bs k b) ≡ slice_set (kepts bs) k (kept_of b.value)
kept_slice [] k b = refl
kept_slice (x ∷ bs) zero b = refl
kept_slice (x ∷ bs) (suc k) b = ap (λ (ks : List Kept). kept_of x.value ∷ ks) (kept_slice bs k b)

pub kept_read : (bs : List (Box OpenCall)) (k : ℕ) → k < length bs → get_or (kepts bs) k no_kept ≡ kept_of (open_at bs k)
kept_read [] k l = absurd (omega arith)
kept_read (x ∷ bs) zero l = refl
kept_read (x ∷ bs) (suc k) l = kept_read bs k (omega arith)

kepts_long : (bs : List (Box OpenCall)) → length (kepts bs) ≡ length bs
kepts_long [] = refl
kepts_long (x ∷ bs) = let e = kepts_long bs in omega (arith, e)

opens_set : (bs : List (Box OpenCall)) (k : ℕ) (b : Box OpenCall) → opens_in (slice_set bs k b) ≡ slice_set (opens_in bs) k b.value
opens_set [] k b = refl
opens_set (x ∷ bs) zero b = refl
opens_set (x ∷ bs) (suc k) b = ap (λ (os : List OpenCall). x.value ∷ os) (opens_set bs k b)

numbers_set : (bs : List (Box OpenCall)) (k : ℕ) (b : Box OpenCall) → k < length bs → b.value.job.io.call ≡ (open_at bs k).job.io.call →
    numbers_of (slice_set bs k b) ≡ numbers_of bs
numbers_set [] k b l e = absurd (omega arith)
numbers_set (x ∷ bs) zero b l e = ap (λ (n : ℕ). n ∷ numbers_of bs) e
numbers_set (x ∷ bs) (suc k) b l e = ap (λ (ns : List ℕ). x.value.job.io.call ∷ ns) (numbers_set bs k b (omega arith) e)

-- **What is seen of the call at a place has changed, and of no other.**
pub changed_at : (bs : List (Box OpenCall)) (live : List ℕ) (k call : ℕ) (b : Box OpenCall) (f : Kept → Kept) → AreListed live (opens_in bs) →
    k < length bs → k < length live → slice_index live k ≡ call → kept_of b.value ≡ f (kept_of (open_at bs k)) →
    b.value.job.io.call ≡ (open_at bs k).job.io.call → ((most : ℕ) → IsOpenCall most (open_at bs k) → IsOpenCall most b.value) →
    ((most : ℕ) → All (IsOpenCall most) (opens_in bs) → IsOpenCall most (open_at bs k)) → IsChanged call f (opens_in bs) (opens_in (slice_set bs k b))
changed_at bs live k call b f listed l m e is number sound there =
    let number_at : (j : ℕ) → j < length bs → slice_index live j ≡ (open_at bs j).job.io.call = λ j lj.
    ap (λ (ns : List ℕ). slice_index ns j) listed.listed ∙ number_read bs j lj in
    let own : (open_at bs k).job.io.call ≡ call = sym (number_at k l) ∙ e in
    let first : IsFirst (kepts bs) k call = λ j lj q.
    let lower = listed.rising j k lj m in
    let here = ap (λ (x : Kept). x.call.number) (kept_read bs j (omega (arith, l, lj))) in
    let there = number_at j (omega (arith, l, lj)) in
    absurd (omega (arith, lower, here, there, q, e)) in
    let long = kepts_long bs in
    let found : kept_in (kepts bs) call ≡ Some (get_or (kepts bs) k no_kept) =
    kept_found (kepts bs) k call (omega (arith, l, long)) (ap (λ (x : Kept). x.call.number) (kept_read bs k l) ∙ own) first in
    let x = kept_of b.value in
    let named : x.call.number ≡ call = number ∙ own in
    record {
      calls = λ c.
          let set : kept_in (kepts (slice_set bs k b)) c ≡ (if c == x.call.number then Some x else kept_in (kepts bs) c) =
          ap (λ (ks : List Kept). kept_in ks c) (kept_slice bs k b)
          ∙ kept_set (kepts bs) k x c (omega (arith, l, long)) (number ∙ sym (ap (λ (y : Kept). y.call.number) (kept_read bs k l)))
          (subst (IsFirst (kepts bs) k) (sym named) first) in
          let by_name = ap (λ (n : ℕ). if c == n then Some x else kept_in (kepts bs) c) named in
          let made : Some x ≡ option_map f (kept_in (kepts bs) call) = ap Some (is ∙ ap f (sym (kept_read bs k l))) ∙ sym (ap (option_map f) found) in
          set ∙ by_name ∙ elim (cases_Bool (c == call)) [
            | inl t ↦ rw t (made ∙ ap (λ (n : ℕ). option_map f (kept_in (kepts bs) n)) (sym (eqb-true c call t)))
            | inr n ↦ rw n refl
          ];
      each = λ most all. subst (All (IsOpenCall most)) (sym (opens_set bs k b)) (All-set (IsOpenCall most) (opens_in bs) k b.value (sound most (there most all)) all);
      numbers = numbers_set bs k b l number;
    }
