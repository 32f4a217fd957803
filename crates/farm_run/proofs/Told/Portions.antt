-- The ends that the portions of a round tell are those of the calls that their lines ended within it.
use Rattle.std.proofs.Common.{◌≡◌, refl, sym, ap, ◌∙◌, subst, ℕ, suc, Bool, true, false, Option, Some, None, List, [], ◌∷◌}
use Rattle.std.proofs.Common.{arith}
use Rattle.std.specs.Prelude.{◌&&◌, ◌||◌, nat_lt, ◌==◌, if◌then◌else◌}
use Rattle.std.specs.List.{AllByRecursion, filter_map, cons_option}
use Rattle.std.proofs.Math.Bool.{and-false}
use Rattle.std.proofs.lemmas.Bool.{eqb-true, and_parts}
use Rattle.trau_io.specs.declared.ends.CallEnd.{CallEnd}
use Rattle.trau_orders.specs.declared.order.Order.{Order}
use Rattle.switchboard.specs.Calls.{Done, is_open, gone_at}
use Rattle.switchboard.specs.Ends.{end_of, start_of}
use Rattle.round_lines.specs.Portions.{PortionMemory}
use Rattle.round_lines.specs.Memory as round_lines
use Rattle.round_lines.specs.Rounds.{Rising, portion_end}
use Rattle.run_spec.specs.Run.{Run, given_in, whole_in, done_in}
use Rattle.farm_run.proofs.Rounds.Taken.{IsRound, IsPortion, has_portion, places_in, ends_within}
use Rattle.farm_run.specs.Ending.{AreApart, is_told}
use Rattle.farm_run.proofs.Rounds.Ends.{end_within, round_end}
use Rattle.farm_run.proofs.Told.Lacking.{none_above, end_of_portion}

-- the run's end of a call
abbrev run_end : Run → List Done → ℕ → CallEnd
run_end r ds c = end_of (given_in r) r.periods (done_in r) c (start_of ds c)

-- the call of an end
abbrev call_of : CallEnd → ℕ
call_of e = e.call

-- a portion's end is the run's
portion_end_is : (r : Run) (t n : ℕ) (ds : List Done) (left : List Order) (s : PortionMemory) → IsRound r t n ds left → IsPortion r ds t n s →
    portion_end t s ≡ (if ends_within r ds t n s.lines.call then Some (run_end r ds s.lines.call) else None)
portion_end_is r t n ds left s h k = round_end r t n ds left s.lines.call s.lines s.up s.pcm h k.open_now k.taken

-- **What holds of the run's end of each call that ends within the round holds of each end that its portions tell.**
pub each_end : (Q : CallEnd → Type 0) (r : Run) (t n : ℕ) (ds : List Done) (left : List Order)
    (portions : List PortionMemory) → IsRound r t n ds left →
    AllByRecursion (IsPortion r ds t n) portions →
    ((c : ℕ) → ends_within r ds t n c ≡ true → Q (end_of (given_in r) r.periods (done_in r) c (start_of ds c))) →
    AllByRecursion Q (filter_map (portion_end t) portions)
each_end Q r t n ds left [] h a q = tt
each_end Q r t n ds left (s ∷ portions) h a q =
    subst (λ (o : Option CallEnd). AllByRecursion Q (cons_option o (filter_map (portion_end t) portions))) (sym (portion_end_is r t n ds left s h a.0))
    (by (ends_within r ds t n s.lines.call) refl (each_end Q r t n ds left portions h a.1 q))
  where
    by : (b : Bool) → ends_within r ds t n s.lines.call ≡ b → AllByRecursion Q (filter_map (portion_end t) portions) →
        AllByRecursion Q (cons_option (if b then Some (run_end r ds s.lines.call) else None) (filter_map (portion_end t) portions))
    by true e k = (q s.lines.call e, k)
    by false e k = k

-- a call's end is told by its portion
told_portion : (r : Run) (t n : ℕ) (ds : List Done) (left : List Order) (c : ℕ) (portions : List PortionMemory) → IsRound r t n ds left →
    AllByRecursion (IsPortion r ds t n) portions →
    is_told c (filter_map (portion_end t) portions) ≡ (has_portion c portions && ends_within r ds t n c)
told_portion r t n ds left c [] h a = refl
told_portion r t n ds left c (s ∷ portions) h a =
    ap (λ (o : Option CallEnd). is_told c (cons_option o (filter_map (portion_end t) portions))) (portion_end_is r t n ds left s h a.0)
    ∙ by (told_portion r t n ds left c portions h a.1) (ends_within r ds t n s.lines.call) refl
  where
    same : c == s.lines.call ≡ true → (b : Bool) → ends_within r ds t n s.lines.call ≡ b → ends_within r ds t n c ≡ b
    same e b f = ap (ends_within r ds t n) (eqb-true c s.lines.call e) ∙ f

    first : (p q e : Bool) → (p ≡ true → e ≡ true) → (p || (q && e)) ≡ ((p || q) && e)
    first false q e f = refl
    first true q e f = sym (f refl)

    none : (p q e : Bool) → (p ≡ true → e ≡ false) → (q && e) ≡ ((p || q) && e)
    none false q e f = refl
    none true q e f = ap (λ (b : Bool). q && b) (f refl) ∙ and-false q ∙ sym (f refl)

    by : is_told c (filter_map (portion_end t) portions) ≡ (has_portion c portions && ends_within r ds t n c) →
        (b : Bool) → ends_within r ds t n s.lines.call ≡ b →
        is_told c (cons_option (if b then Some (run_end r ds s.lines.call) else None) (filter_map (portion_end t) portions))
        ≡ ((c == s.lines.call || has_portion c portions) && ends_within r ds t n c)
    by rest true e =
        let named : call_of (run_end r ds s.lines.call) ≡ s.lines.call = ap call_of (end_within r t n ds left s.lines.call h e) in
        ap (λ (d : ℕ). c == d || is_told c (filter_map (portion_end t) portions)) named ∙ ap (λ (b : Bool). c == s.lines.call || b) rest
        ∙ first (c == s.lines.call) (has_portion c portions) (ends_within r ds t n c) (λ f. same f true e)
    by rest false e = rest ∙ none (c == s.lines.call) (has_portion c portions) (ends_within r ds t n c) (λ f. same f false e)

-- **Where each open call has a portion, the ends that are told are those of exactly the calls that end within the
-- round.**
pub told_portions : (r : Run) (t n : ℕ) (ds : List Done) (left : List Order) (portions : List PortionMemory) → IsRound r t n ds left →
    AllByRecursion (IsPortion r ds t n) portions →
    ((c : ℕ) → is_open (gone_at (whole_in r) t ds) ds c ≡ true → has_portion c portions ≡ true) → (c : ℕ) →
    is_told c (filter_map (portion_end t) portions) ≡ ends_within r ds t n c
told_portions r t n ds left portions h a all c = told_portion r t n ds left c portions h a ∙ by (ends_within r ds t n c) refl
  where
    by : (b : Bool) → ends_within r ds t n c ≡ b → (has_portion c portions && b) ≡ b
    by true e = ap (λ (b : Bool). b && true) (all c (let p = and_parts (is_open (gone_at (whole_in r) t ds) ds c) (nat_lt (places_in r ds t n c) n) e in p.0))
    by false e = and-false (has_portion c portions)

-- **No call has two of the ends that portions tell.**
pub portions_apart : (t : ℕ) (portions : List PortionMemory) → Rising portions → AreApart (filter_map (portion_end t) portions)
portions_apart t [] r = tt
portions_apart t (s ∷ portions) r =
    let above = none_above t s.lines.call portions (λ j l. r 0 (suc j) (omega arith) (omega arith)) in
    by (round_lines.whole_in s.lines == s.lines.periods) above.0
    (portions_apart t portions (λ i j l k. r (suc i) (suc j) (omega arith) (omega arith)))
  where
    by : (b : Bool) → is_told s.lines.call (filter_map (portion_end t) portions) ≡ false →
        AreApart (filter_map (portion_end t) portions) →
        AreApart (cons_option (if b then None else Some (end_of_portion t s)) (filter_map (portion_end t) portions))
    by true e k = k
    by false e k = (e, k)
