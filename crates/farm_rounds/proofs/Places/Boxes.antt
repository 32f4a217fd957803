-- The open calls in their boxes, by their places.
use Rattle.std.proofs.Common.{◌≡◌, ◌≢◌, refl, sym, ap, ◌∙◌, subst, ℕ, zero, suc, ◌+◌, ◌<◌, ◌≤◌, Bool, true, false, List, [], ◌∷◌, ◌++◌, length, length-append, map, get_or, arith, inl, inr}
use Rattle.std.specs.Prelude.{slice_set, filter}
use Rattle.std.specs.Global.{Box}
use Rattle.std.proofs.lemmas.Bool.{cases_lt, eq-eqb, ne_eqb}
use Rattle.farm_rounds.specs.declared.open.OpenCall.{OpenCall}
use Rattle.call_pair.specs.Phases.{hear_from}
use Rattle.round_lines.specs.Portions.{PortionMemory}
use Rattle.round_lines.specs.Rounds.{portion_at}
use Rattle.farm_rounds.specs.Opens.{opens_in, portions_of, portion_of_open, with_job, goes_on_open, same_portion}
use Rattle.farm_rounds.specs.Opened.{open_at, same_portions, Standing, standing_of_open, standings, standing_of, no_standing}

pub at_set : (bs : List (Box OpenCall)) (k : ℕ) (b : Box OpenCall) → k < length bs → open_at (slice_set bs k b) k ≡ b.value
at_set [] k b l = absurd (omega arith)
at_set (x ∷ bs) zero b l = refl
at_set (x ∷ bs) (suc k) b l = at_set bs k b (omega arith)

pub at_other : (bs : List (Box OpenCall)) (k j : ℕ) (b : Box OpenCall) → j ≢ k → open_at (slice_set bs k b) j ≡ open_at bs j
at_other [] k j b ne = refl
at_other (x ∷ bs) zero zero b ne = absurd (ne refl)
at_other (x ∷ bs) zero (suc j) b ne = refl
at_other (x ∷ bs) (suc k) zero b ne = refl
at_other (x ∷ bs) (suc k) (suc j) b ne = at_other bs k j b (λ e. ne (ap suc e))

pub at_read : (bs : List (Box OpenCall)) (k : ℕ) (b : Box OpenCall) → k < length bs → (get_or bs k b).value ≡ open_at bs k
at_read [] k b l = absurd (omega arith)
at_read (x ∷ bs) zero b l = refl
at_read (x ∷ bs) (suc k) b l = at_read bs k b (omega arith)

-- in two parts
pub at_front : (xs ys : List (Box OpenCall)) (k : ℕ) → k < length xs → open_at (xs ++ ys) k ≡ open_at xs k
at_front [] ys k l = absurd (omega arith)
at_front (x ∷ xs) ys zero l = refl
at_front (x ∷ xs) ys (suc k) l = at_front xs ys k (omega arith)

pub at_back : (xs ys : List (Box OpenCall)) (n : ℕ) → length xs ≡ n → open_at (xs ++ ys) n ≡ open_at ys 0
at_back [] ys n e = ap (λ (k : ℕ). open_at ys k) (sym e)
at_back (x ∷ xs) ys zero e = absurd (omega arith)
at_back (x ∷ xs) ys (suc n) e = at_back xs ys n (omega (arith, e))

-- what is read in one of two parts is read in the whole
pub front_read : (bs xs ys : List (Box OpenCall)) (k : ℕ) (b : Box OpenCall) (o : OpenCall) → bs ≡ xs ++ ys → k < length xs →
    o ≡ (get_or xs k b).value → o ≡ open_at bs k
front_read bs xs ys k b o parts l e = e ∙ at_read xs k b l ∙ sym (at_front xs ys k l) ∙ ap (λ (zs : List (Box OpenCall)). open_at zs k) (sym parts)

pub back_long : (bs xs ys : List (Box OpenCall)) (n : ℕ) → bs ≡ xs ++ ys → length xs ≡ n → n < length bs → 0 < length ys
back_long bs xs ys n parts long l = omega (arith, ap length parts, length-append xs ys, long, l)

pub back_read : (bs xs ys : List (Box OpenCall)) (n : ℕ) (b : Box OpenCall) (o : OpenCall) → bs ≡ xs ++ ys → length xs ≡ n → n < length bs →
    o ≡ (get_or ys 0 b).value → o ≡ open_at bs n
back_read bs xs ys n b o parts long l e =
    e ∙ at_read ys 0 b (back_long bs xs ys n parts long l) ∙ sym (at_back xs ys n long) ∙ ap (λ (zs : List (Box OpenCall)). open_at zs n) (sym parts)

pub front_set : (xs ys : List (Box OpenCall)) (k : ℕ) (b : Box OpenCall) → k < length xs → open_at (slice_set xs k b ++ ys) k ≡ b.value
front_set [] ys k b l = absurd (omega arith)
front_set (x ∷ xs) ys zero b l = refl
front_set (x ∷ xs) ys (suc k) b l = front_set xs ys k b (omega arith)

pub front_other : (xs ys : List (Box OpenCall)) (k j : ℕ) (b : Box OpenCall) → j ≢ k → open_at (slice_set xs k b ++ ys) j ≡ open_at (xs ++ ys) j
front_other [] ys k j b ne = refl
front_other (x ∷ xs) ys zero zero b ne = absurd (ne refl)
front_other (x ∷ xs) ys zero (suc j) b ne = refl
front_other (x ∷ xs) ys (suc k) zero b ne = refl
front_other (x ∷ xs) ys (suc k) (suc j) b ne = front_other xs ys k j b (λ e. ne (ap suc e))

pub back_set : (xs ys : List (Box OpenCall)) (n : ℕ) (b : Box OpenCall) → length xs ≡ n → 0 < length ys → open_at (xs ++ slice_set ys 0 b) n ≡ b.value
back_set xs ys n b e l = at_back xs (slice_set ys 0 b) n e ∙ at_set ys 0 b l

pub back_other : (xs ys : List (Box OpenCall)) (n j : ℕ) (b : Box OpenCall) → length xs ≡ n →
    j ≢ n → open_at (xs ++ slice_set ys 0 b) j ≡ open_at (xs ++ ys) j
back_other [] [] n j b e ne = refl
back_other [] (y ∷ ys) n zero b e ne = absurd (ne e)
back_other [] (y ∷ ys) n (suc j) b e ne = refl
back_other (x ∷ xs) ys zero j b e ne = absurd (omega (arith, e))
back_other (x ∷ xs) ys (suc n) zero b e ne = refl
back_other (x ∷ xs) ys (suc n) (suc j) b e ne = back_other xs ys n j b (omega (arith, e)) (λ q. ne (ap suc q))

-- the partner's notes reach as far, as both are read
pub told_same : (o p o' p' : OpenCall) → o ≡ o' → p ≡ p' → o'.job.bridge_end ≤ length p'.job.notes → o.job.bridge_end ≤ length p.job.notes
told_same o p o' p' eo ep l = omega (arith, ap (λ (x : OpenCall). x.job.bridge_end) eo, ap (λ (x : OpenCall). length x.job.notes) ep, l)

pub heard_same : (o p o' p' : OpenCall) (i : OpenCall) → i ≡ with_job o (hear_from p.job o.job) → o ≡ o' → p ≡ p' →
    i ≡ with_job o' (hear_from p'.job o'.job)
heard_same o p o' p' i ej eo ep =
    ej ∙ ap (λ (x : OpenCall). with_job x (hear_from p.job x.job)) eo
    ∙ ap (λ (x : OpenCall). with_job o' (hear_from x.job o'.job)) ep

-- those that are kept
pub kept_values : (bs : List (Box OpenCall)) → opens_in (filter (λ b. goes_on_open b.value) bs) ≡ filter goes_on_open (opens_in bs)
kept_values [] = refl
kept_values (b ∷ bs) = by (goes_on_open b.value) refl (kept_values bs)
  where
    by : (t : Bool) → goes_on_open b.value ≡ t → opens_in (filter (λ b. goes_on_open b.value) bs) ≡ filter goes_on_open (opens_in bs) →
        opens_in (filter (λ b. goes_on_open b.value) (b ∷ bs)) ≡ filter goes_on_open (opens_in (b ∷ bs))
    by true e rest = rw e (ap (λ (xs : List OpenCall). b.value ∷ xs) rest)
    by false e rest = rw e rest

-- what stands at a place of the portions
pub portions_set : (bs : List (Box OpenCall)) (k : ℕ) (b : Box OpenCall) → portions_of (slice_set bs k b) ≡ slice_set (portions_of bs) k (portion_of_open b.value)
portions_set [] k b = refl
portions_set (x ∷ bs) zero b = refl
portions_set (x ∷ bs) (suc k) b = ap (λ (ss : List PortionMemory). portion_of_open x.value ∷ ss) (portions_set bs k b)

-- what is read at a place, of its portion
pub portion_read : (bs : List (Box OpenCall)) (k : ℕ) → k < length bs → portion_of_open (open_at bs k) ≡ portion_at (portions_of bs) k
portion_read [] k l = absurd (omega arith)
portion_read (x ∷ bs) zero l = refl
portion_read (x ∷ bs) (suc k) l = portion_read bs k (omega arith)

pub portions_long : (bs : List (Box OpenCall)) → length (portions_of bs) ≡ length bs
portions_long [] = refl
portions_long (x ∷ bs) = let e = portions_long bs in omega (arith, e)

pub opens_long : (bs : List (Box OpenCall)) → length (opens_in bs) ≡ length bs
opens_long [] = refl
opens_long (x ∷ bs) = let e = opens_long bs in omega (arith, e)

-- a call that is as it was, but for its incoming octets
pub sames_set : (bs : List (Box OpenCall)) (k : ℕ) (b : Box OpenCall) → k < length bs → same_portion b.value ≡ same_portion (open_at bs k) →
    same_portions (slice_set bs k b) ≡ same_portions bs
sames_set [] k b l e = absurd (omega arith)
sames_set (x ∷ bs) zero b l e = ap (λ (o : OpenCall). o ∷ same_portions bs) e
sames_set (x ∷ bs) (suc k) b l e = ap (λ (os : List OpenCall). same_portion x.value ∷ os) (sames_set bs k b (omega arith) e)

-- ---- what a call's partner needs

pub standings_long : (bs : List (Box OpenCall)) → length (standings bs) ≡ length bs
standings_long [] = refl
standings_long (x ∷ bs) = let e = standings_long bs in omega (arith, e)

pub standing_at : (bs : List (Box OpenCall)) (k : ℕ) → k < length bs → get_or (standings bs) k no_standing ≡ standing_of_open (open_at bs k)
standing_at [] k l = absurd (omega arith)
standing_at (x ∷ bs) zero l = refl
standing_at (x ∷ bs) (suc k) l = standing_at bs k (omega arith)

pub standings_set : (bs : List (Box OpenCall)) (k : ℕ) (b : Box OpenCall) → k < length bs →
    standing_of_open b.value ≡ standing_of_open (open_at bs k) → standings (slice_set bs k b) ≡ standings bs
standings_set [] k b l e = absurd (omega arith)
standings_set (x ∷ bs) zero b l e = ap (λ (s : Standing). s ∷ standings bs) e
standings_set (x ∷ bs) (suc k) b l e = ap (λ (ss : List Standing). standing_of_open x.value ∷ ss) (standings_set bs k b (omega arith) e)

-- the call with a number, by its place
pub numbered : (ss : List Standing) (k d : ℕ) → k < length ss → (get_or ss k no_standing).number ≡ d →
    ((j : ℕ) → j < k → (get_or ss j no_standing).number ≢ d) → standing_of ss d ≡ get_or ss k no_standing
numbered [] k d l e apart = absurd (omega arith)
numbered (s ∷ ss) zero d l e apart = rw (eq-eqb s.number d e) refl
numbered (s ∷ ss) (suc k) d l e apart = rw (ne_eqb s.number d (apart 0 (omega arith)))
    (numbered ss k d (omega arith) e (λ j lj. apart (suc j) (omega (arith, lj))))

-- each of the first places has changed as `f` says by its place, and no other
pub record AreChanged (f : ℕ → OpenCall → OpenCall) (before now : List (Box OpenCall)) (n : ℕ) : Type 0 where
  pub done : (k : ℕ) → k < n → open_at now k ≡ f k (open_at before k)
  pub left : (k : ℕ) → n ≤ k → open_at now k ≡ open_at before k
  pub long : length now ≡ length before

pub changed_next : (f : ℕ → OpenCall → OpenCall) (before now next : List (Box OpenCall)) (n : ℕ) → AreChanged f before now n →
    open_at next n ≡ f n (open_at now n) → ((k : ℕ) → k ≢ n → open_at next k ≡ open_at now k) →
    length next ≡ length now → AreChanged f before next (n + 1)
changed_next f before now next n m here others long = record {
  done = λ k lk. elim (cases_lt k n) [
    | inl less ↦ others k (λ e. absurd (omega (arith, less, e))) ∙ m.done k less
    | inr more ↦
        let same : n ≡ k = omega (arith, lk, more) in
        subst (λ (i : ℕ). open_at next i ≡ f i (open_at before i)) same (here ∙ ap (f n) (m.left n (omega arith)))
  ];
  left = λ k lk. others k (λ e. absurd (omega (arith, lk, e))) ∙ m.left k (omega (arith, lk));
  long = long ∙ m.long;
}

-- at the end all have
changed_from : (f : OpenCall → OpenCall) (before now : List (Box OpenCall)) → ((k : ℕ) → k < length before → open_at now k ≡ f (open_at before k)) →
    length now ≡ length before → opens_in now ≡ map f (opens_in before)
changed_from f [] [] all long = refl
changed_from f [] (y ∷ now) all long = absurd (omega arith)
changed_from f (x ∷ before) [] all long = absurd (omega arith)
changed_from f (x ∷ before) (y ∷ now) all long =
    ap (λ (o : OpenCall). o ∷ opens_in now) (all 0 (omega arith))
    ∙ ap (λ (os : List OpenCall). f x.value ∷ os) (changed_from f before now (λ k l. all (suc k) (omega arith)) (omega (arith, long)))

pub changed_all : (f : ℕ → OpenCall → OpenCall) (g : OpenCall → OpenCall) (before now : List (Box OpenCall)) (n : ℕ) → AreChanged f before now n →
    length before ≤ n → ((k : ℕ) → k < length before → f k (open_at before k) ≡ g (open_at before k)) → opens_in now ≡ map g (opens_in before)
changed_all f g before now n m all same = changed_from g before now (λ k l. m.done k (omega (arith, l, all)) ∙ same k l) m.long
