-- A loop that makes a value of each element.
use Rattle.std.proofs.Common.{◌≡◌, ℕ, ◌+◌, ◌<◌, ◌≤◌, get_or, set, length, take, drop, List, [], ◌∷◌, ◌++◌, map, refl, ◌∙◌, arith, drop-cons, append_assoc}
use Rattle.std.proofs.Common.{add-one}
use Rattle.std.proofs.lemmas.List.{length-set, drop_all, take_all, append-nil}
use Rattle.std.proofs.lemmas.Grind.{take-set_at}

-- the first k are done, and what is left gives the rest
pub record Run {A B : Type 0} (f : A → B) (x : List A) (made : List B) (k : ℕ) : Type 0 where
  pub count : length made ≡ length x
  pub done : take k made ++ map f (drop k x) ≡ map f x

-- one item more
pub run_next : {A B : Type 0} (f : A → B) (x : List A) (made : List B) (k : ℕ) (a : A) (b : B) → k < length x → Run f x made k → b ≡ f (get_or x k a) →
    Run f x (set made k b) (k + 1)
run_next f x made k a b h run e =
    let count = run.count in
    let t : take (k + 1) (set made k b) ≡ take k made ++ b ∷ [] = take-set_at made k (k + 1) b refl (omega arith) in
    let d : drop k x ≡ get_or x k a ∷ drop (k + 1) x = drop-cons x k a h ∙ rw add-one refl in
    record {
      count = length-set made k b ∙ count;
      done = rw (t, append_assoc, e) (rw d at run.done);
    }

pub run_end : {A B : Type 0} (f : A → B) (x : List A) (made : List B) (k : ℕ) → length x ≤ k → Run f x made k → made ≡ map f x
run_end f x made k h run =
    let count = run.count in
    let e : drop k x ≡ [] = drop_all k x h in
    let t : take k made ≡ made = take_all k made (omega arith) in
    rw (t, e, append-nil) at run.done
