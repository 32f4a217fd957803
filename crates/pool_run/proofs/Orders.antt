-- Two lists with the same entries, both in the order of their numbers, are one list.
use Rattle.std.proofs.Common.{◌≡◌, ◌≢◌, ℕ, zero, suc, ◌+◌, ◌<◌, ◌≤◌, List, [], ◌∷◌, length, map, All, get_or, sym, refl, ap, ◌∙◌, subst, ⊎_elim, arith}
use Rattle.std.specs.Coded.{Coded}
use Rattle.std.proofs.lemmas.Bool.{cases_lt}
use Rattle.std.specs.Global.{Box}
use Rattle.std.specs.List.Sorted.{IsNonDecreasingBy, IsPermutation}
use Rattle.std.proofs.lemmas.List.Sorted.{All-permutation}
use Rattle.std.proofs.lemmas.List.{length-map}
use base.Stored.{Gv}
use base.Stored.Gv.{gnil, gnum, gcons}
use Rattle.pool_run.specs.declared.deque.Task.{Task}
use Rattle.trau_num.specs.Weights.{weigh}
use Rattle.pool_run.specs.Deque.{SameEntries, entry_of}
use Rattle.pool_run.specs.Member.{IsEnded}
use Rattle.pool_run.specs.Pool.{entries_from, IsNumbered}
use Rattle.pool_run.proofs.Weights.{weigh-map, weigh-permutation}

-- 1 where the two are equal, else 0
abbrev same_n : ℕ → ℕ → ℕ
same_n zero zero = 1
same_n zero (suc b) = 0
same_n (suc a) zero = 0
same_n (suc a) (suc b) = same_n a b

-- what tells whether two numbers are the same: 1 or 0
same_n_refl : (a : ℕ) → same_n a a ≡ 1
same_n_refl zero = refl
same_n_refl (suc a) = same_n_refl a

same_n_ne : (a b : ℕ) → a ≢ b → same_n a b ≡ 0
same_n_ne zero zero ne = absurd (ne refl)
same_n_ne zero (suc b) ne = refl
same_n_ne (suc a) zero ne = refl
same_n_ne (suc a) (suc b) ne = same_n_ne a b (λ e. ne (ap suc e))

same_n_eq : (a b : ℕ) → same_n a b ≡ 1 → a ≡ b
same_n_eq zero zero e = refl
same_n_eq zero (suc b) e = absurd (omega arith)
same_n_eq (suc a) zero e = absurd (omega arith)
same_n_eq (suc a) (suc b) e = ap suc (same_n_eq a b e)

-- 1 where both are 1, for numbers that are 0 or 1
abbrev both : ℕ → ℕ → ℕ
both zero b = 0
both (suc a) b = b

-- the same of a job's number and its value
abbrev same_gv : Gv → Gv → ℕ
same_gv gnil gnil = 1
same_gv gnil (gnum n) = 0
same_gv gnil (gcons a b) = 0
same_gv (gnum n) gnil = 0
same_gv (gnum n) (gnum m) = same_n n m
same_gv (gnum n) (gcons a b) = 0
same_gv (gcons a b) gnil = 0
same_gv (gcons a b) (gnum n) = 0
same_gv (gcons a b) (gcons c d) = both (same_gv a c) (same_gv b d)

-- both hold where each does
both_one : (a b : ℕ) → a ≡ 1 → b ≡ 1 → both a b ≡ 1
both_one zero b e f = absurd (omega arith)
both_one (suc a) b e f = f

both_right : (a b : ℕ) → both a b ≡ 1 → b ≡ 1
both_right zero b e = absurd (omega arith)
both_right (suc a) b e = e

both_left : (a b : ℕ) → a ≤ 1 → both a b ≡ 1 → a ≡ 1
both_left zero b le e = absurd (omega arith)
both_left (suc a) b le e = omega arith

both-le : (a b : ℕ) → b ≤ 1 → both a b ≤ 1
both-le zero b h = omega arith
both-le (suc a) b h = h

same_n-le : (a b : ℕ) → same_n a b ≤ 1
same_n-le zero zero = omega arith
same_n-le zero (suc b) = omega arith
same_n-le (suc a) zero = omega arith
same_n-le (suc a) (suc b) = same_n-le a b

same_gv-le : (a b : Gv) → same_gv a b ≤ 1
same_gv-le gnil gnil = omega arith
same_gv-le gnil (gnum n) = omega arith
same_gv-le gnil (gcons a b) = omega arith
same_gv-le (gnum n) gnil = omega arith
same_gv-le (gnum n) (gnum m) = same_n-le n m
same_gv-le (gnum n) (gcons a b) = omega arith
same_gv-le (gcons a b) gnil = omega arith
same_gv-le (gcons a b) (gnum n) = omega arith
same_gv-le (gcons a b) (gcons c d) = both-le (same_gv a c) (same_gv b d) (same_gv-le b d)

same_gv_refl : (a : Gv) → same_gv a a ≡ 1
same_gv_refl gnil = refl
same_gv_refl (gnum n) = same_n_refl n
same_gv_refl (gcons a b) = both_one (same_gv a a) (same_gv b b) (same_gv_refl a) (same_gv_refl b)

same_gv_eq : (a b : Gv) → same_gv a b ≡ 1 → a ≡ b
same_gv_eq gnil gnil e = refl
same_gv_eq gnil (gnum n) e = absurd (omega arith)
same_gv_eq gnil (gcons a b) e = absurd (omega arith)
same_gv_eq (gnum n) gnil e = absurd (omega arith)
same_gv_eq (gnum n) (gnum m) e = ap gnum (same_n_eq n m e)
same_gv_eq (gnum n) (gcons a b) e = absurd (omega arith)
same_gv_eq (gcons a b) gnil e = absurd (omega arith)
same_gv_eq (gcons a b) (gnum n) e = absurd (omega arith)
same_gv_eq (gcons a b) (gcons c d) e =
    let p = same_gv_eq a c (both_left (same_gv a c) (same_gv b d) (same_gv-le a c) e) in
    let q = same_gv_eq b d (both_right (same_gv a c) (same_gv b d) e) in λ i. gcons (p i) (q i)

module _ {W : Type 0} (coded : Coded W) where
  abbrev key : ℕ → ℕ × W → ℕ
  key n e = same_n n e.0

  abbrev whole : ℕ → W → ℕ × W → ℕ
  whole n x e = both (same_n n e.0) (same_gv (coded.code x) (coded.code e.1))

  -- no entry has a number below n
  abbrev AllFrom : ℕ → List (ℕ × W) → Type 0
  AllFrom n es = (i : ℕ) (d : ℕ × W) → i < length es → n ≤ (get_or es i d).0

  none_of : (f : ℕ × W → ℕ) (n k : ℕ) (es : List (ℕ × W)) → k < n → AllFrom n es → ((e : ℕ × W) → k < e.0 → f e ≡ 0) → weigh f es ≡ 0
  none_of f n k [] lt from none = refl
  none_of f n k (e ∷ es) lt from none =
      let a = none e (let h = from 0 e (omega arith) in omega arith) in let b = none_of f n k es lt (λ i d h. from (suc i) d (omega arith)) none in omega arith

  key_none : (n k : ℕ) (es : List (ℕ × W)) → k < n → AllFrom n es → weigh (key k) es ≡ 0
  key_none n k es lt from = none_of (key k) n k es lt from (λ e h. same_n_ne k e.0 (λ q. absurd (omega arith)))

  whole-le : (n : ℕ) (x : W) (es : List (ℕ × W)) → weigh (key n) es ≡ 0 → weigh (whole n x) es ≡ 0
  whole-le n x [] e = refl
  whole-le n x (y ∷ es) e =
      let k : same_n n y.0 ≡ 0 = omega arith in
      let w : both (same_n n y.0) (same_gv (coded.code x) (coded.code y.1)) ≡ both 0 (same_gv (coded.code x) (coded.code y.1)) =
      ap (λ (a : ℕ). both a (same_gv (coded.code x) (coded.code y.1))) k in
      let r = whole-le n x es (omega arith) in omega arith

  numbered_from : (n : ℕ) (es : List (ℕ × W)) → IsNumbered n es → AllFrom n es
  numbered_from n [] h i d in_range = absurd (omega arith)
  numbered_from n (e ∷ es) h zero d in_range = omega (arith, h.0)
  numbered_from n (e ∷ es) h (suc i) d in_range = let r = numbered_from (n + 1) es h.1 i d (omega arith) in omega arith

  -- each entry's number is not below those before it
  abbrev pub InOrder : List (ℕ × W) → Type 0
  InOrder [] = Unit {0}
  InOrder (e ∷ es) = AllFrom e.0 es × InOrder es

  pub numbered_same : (n : ℕ) (es ys : List (ℕ × W)) → IsNumbered n es → InOrder ys → SameEntries es ys → es ≡ ys
  numbered_same n [] [] num ord same = refl
  numbered_same n [] (y ∷ ys) num ord same = absurd (let s = same (λ _. 1) in omega arith)
  numbered_same n (e ∷ es) [] num ord same = absurd (let s = same (λ _. 1) in omega arith)
  numbered_same n (e ∷ es) (y ∷ ys) num ord same =
      let later : weigh (key n) es ≡ 0 = key_none (n + 1) n es (omega arith) (numbered_from (n + 1) es num.1) in
      let mine : same_n n e.0 ≡ 1 = subst (λ (k : ℕ). same_n n k ≡ 1) (sym num.0) (same_n_refl n) in
      let counted : weigh (key n) (y ∷ ys) ≡ 1 = omega (arith, same (key n)) in
      let not_above : y.0 ≤ n =
      ⊎_elim (λ (lt : n < y.0). absurd (let z = key_none y.0 n ys lt ord.0 in let w = same_n_ne n y.0 (λ q. absurd (omega arith)) in omega arith))
      (λ (le : y.0 ≤ n). le) (cases_lt n y.0) in
      let not_below : n ≤ y.0 =
      ⊎_elim (λ (lt : y.0 < n). absurd
      (let z = key_none n y.0 (e ∷ es) lt (numbered_from n (e ∷ es) num) in let w = same_n_refl y.0 in let s = same (key y.0) in omega arith))
      (λ (le : n ≤ y.0). le) (cases_lt y.0 n) in
      let at : y.0 ≡ n = omega arith in
      let first : same_n n y.0 ≡ 1 = subst (λ (k : ℕ). same_n n k ≡ 1) (sym at) (same_n_refl n) in
      let rest : weigh (key n) ys ≡ 0 = omega arith in
      let w_es = whole-le n e.1 es later in
      let w_ys = whole-le n e.1 ys rest in
      let w_e : whole n e.1 e ≡ 1 = both_one (same_n n e.0) (same_gv (coded.code e.1) (coded.code e.1)) mine (same_gv_refl (coded.code e.1)) in
      let s = same (whole n e.1) in
      let w_y : whole n e.1 y ≡ 1 = omega arith in
      let code : coded.code e.1 ≡ coded.code y.1 =
      same_gv_eq (coded.code e.1) (coded.code y.1) (both_right (same_n n y.0) (same_gv (coded.code e.1) (coded.code y.1)) w_y) in
      let one : e.1 ≡ y.1 = coded.inj e.1 y.1 code in
      let zero' : e.0 ≡ y.0 = num.0 ∙ sym at in
      let head : e ≡ y = λ i. (zero' i, one i) in
      let tail = numbered_same (n + 1) es ys num.1 ord.1 (λ h. let t = same h in let q = ap h head in omega arith) in λ i. head i ∷ tail i

module _ {W : Type 0} (finish : W → W) where
  pub entries_numbered : (n : ℕ) (bs : List (Box W)) → IsNumbered n (entries_from finish n bs)
  entries_numbered n [] = tt
  entries_numbered n (b ∷ bs) = (refl, entries_numbered (n + 1) bs)

  pub entries_count : (n : ℕ) (bs : List (Box W)) → weigh (λ (e : ℕ × W). 1) (entries_from finish n bs) ≡ length bs
  entries_count n [] = refl
  entries_count n (b ∷ bs) = omega (arith, entries_count (n + 1) bs)

  pub entries_values : (n : ℕ) (bs : List (Box W)) → map (λ (e : ℕ × W). e.1) (entries_from finish n bs) ≡ map (λ (b : Box W). finish b.value) bs
  entries_values n [] = refl
  entries_values n (b ∷ bs) = ap (λ l. finish b.value ∷ l) (entries_values (n + 1) bs)

  number_at : (ts : List (Task W)) (i : ℕ) (d : ℕ × W) (t : Task W) → i < length ts → (get_or (map (entry_of finish) ts) i d).0 ≡ (get_or ts i t).number
  number_at [] i d t h = absurd (omega arith)
  number_at (x ∷ ts) zero d t h = refl
  number_at (x ∷ ts) (suc i) d t h = number_at ts i d t (omega arith)

  from_number : (t : Task W) (ts : List (Task W)) → IsNonDecreasingBy (λ (t : Task W). t.number) (t ∷ ts) → (i : ℕ) (d : ℕ × W) →
      i < length (map (entry_of finish) ts) → t.number ≤ (get_or (map (entry_of finish) ts) i d).0
  from_number t ts h i d lt =
      let len = length-map ts (entry_of finish) in let s = h 0 (suc i) t (omega arith) (omega arith) in omega (arith, number_at ts i d t (omega arith))

  pub in_order_from : (coded : Coded W) (ts : List (Task W)) → IsNonDecreasingBy (λ (t : Task W). t.number) ts → InOrder coded (map (entry_of finish) ts)
  in_order_from coded [] h = tt
  in_order_from coded (t ∷ ts) h = (from_number t ts h, in_order_from coded ts (λ i j d le lt. h (suc i) (suc j) d (omega arith) (omega arith)))

  pub ended_values : (ts : List (Task W)) → All (IsEnded finish) ts →
      map (λ (e : ℕ × W). e.1) (map (entry_of finish) ts) ≡ map (λ (b : Box W). b.value) (map (λ (t : Task W). t.job) ts)
  ended_values [] h = refl
  ended_values (t ∷ ts) h =
      let a : finish t.job.value ≡ t.job.value = h 0 t (omega arith) in let b = ended_values ts (λ i d lt. h (suc i) d (omega arith)) in λ i. a i ∷ b i

module _ {W : Type 0} (finish : W → W) (coded : Coded W) where
  pub answers : (all ts : List (Task W)) (es : List (ℕ × W)) → All (IsEnded finish) all → IsPermutation all ts →
      IsNonDecreasingBy (λ (t : Task W). t.number) ts → IsNumbered 0 es → SameEntries es (map (entry_of finish) all) →
      map (λ (b : Box W). b.value) (map (λ (t : Task W). t.job) ts) ≡ map (λ (e : ℕ × W). e.1) es
  answers all ts es ended perm order numbered same =
      let same' : SameEntries es (map (entry_of finish) ts) =
      λ h. omega (
        arith,
        same h,
        weigh-map h (entry_of finish) all,
        weigh-map h (entry_of finish) ts,
        weigh-permutation (λ (t : Task W). h (entry_of finish t)) all ts perm,
      ) in
      let eq = numbered_same coded 0 es (map (entry_of finish) ts) numbered (in_order_from finish coded ts order) same' in
      sym (ap (map (λ (e : ℕ × W). e.1)) eq ∙ ended_values finish ts (All-permutation (IsEnded finish) all ts perm ended))
