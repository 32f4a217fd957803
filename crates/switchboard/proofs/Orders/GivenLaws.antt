-- For crates above: a call that was opened keeps its law, whatever is executed later (`law_stays`).
-- The law of each call, after one more order.
use Rattle.std.proofs.Common.{◌≡◌, refl, sym, ap, ◌∙◌, ℕ, Bool, true, false, Option, Some, None, List, [], ◌∷◌, ◌++◌, inl, inr}
use Rattle.std.specs.Prelude.{Result, Ok, find, is_some, option_map, if◌then◌else◌, ◌==◌}
use Rattle.std.proofs.lemmas.Bool.{cases_eq, eq-eqb, ne_eqb}
use Rattle.trau_alaw.specs.declared.Law.{Law}
use Rattle.trau_alaw.specs.declared.Law.TheVariants.{A}
use Rattle.trau_orders.specs.declared.order.Order.{Order}
use Rattle.switchboard.specs.declared.act.Act.{Act}
use Rattle.switchboard.specs.declared.act.Act.TheVariants as act
use Rattle.switchboard.specs.declared.act.Refusal.{Refusal}
use Rattle.switchboard.specs.Calls.{Done, is_this, opened_by, law_by, opened_at, law_at}
use Rattle.switchboard.specs.State.{State, after_turn, done_by}
use Rattle.switchboard.specs.Open.{opened_now, open_now, law_now, partner_now, law_after, Finds}
use Rattle.switchboard.proofs.Orders.OneMore.{or_else}
use Rattle.switchboard.proofs.Orders.Steps.{or_else-none}

-- the order that opened a call
abbrev opener : ℕ → List Done → Option Done
opener c ds = find (λ d. is_this c (opened_by d.result)) ds

-- the law that this order gave
abbrev law_given : Option Done → Law
law_given o = elim o [ None ↦ A | Some d ↦ law_by d.result ]

-- a search over one more order finds what it found before, or the new one
first_more : (t : Bool) (e : Done) (u v w : Option Done) → u ≡ or_else v w → (if t then Some e else u) ≡ or_else (if t then Some e else v) w
first_more true e u v w h = refl
first_more false e u v w h = h

opener-more : (c : ℕ) (ds later : List Done) → opener c (ds ++ later) ≡ or_else (opener c ds) (opener c later)
opener-more c [] later = refl
opener-more c (e ∷ ds) later = first_more (is_this c (opened_by e.result)) e _ _ _ (opener-more c ds later)

-- orders that don't open the call leave it its law
pub law_kept : (c : ℕ) (ds : List Done) (d : Done) → is_this c (opened_by d.result) ≡ false → law_at c (ds ++ d ∷ []) ≡ law_at c ds
law_kept c ds d other =
    let none : opener c (d ∷ []) ≡ None = ap (λ (t : Bool). if t then Some d else None) other in
    ap law_given (opener-more c ds (d ∷ []) ∙ ap (or_else (opener c ds)) none ∙ or_else-none _)

-- where the first has something, it is taken
first_stays : (u w : Option Done) → is_some (option_map (λ d. d.order.stamp) u) ≡ true → or_else u w ≡ u
first_stays None w e = cc
first_stays (Some d) w e = refl

-- a call that was opened keeps its law
pub law_stays : (c : ℕ) (ds later : List Done) → is_some (opened_at c ds) ≡ true → law_at c (ds ++ later) ≡ law_at c ds
law_stays c ds later e = ap law_given (opener-more c ds later ∙ first_stays (opener c ds) (opener c later) e)

-- where it has nothing, the second is taken
second_first : (u w : Option Done) → is_some (option_map (λ d. d.order.stamp) u) ≡ false → or_else u w ≡ w
second_first None w e = refl
second_first (Some d) w e = cc

-- an order that opens a new call gives it the law that it names, and no other call
law_opened : (n c : ℕ) (law : Law) (ds : List Done) (o : Order) → is_some (opened_at n ds) ≡ false →
    law_at c (ds ++ record { order = o; result = Ok (act.Opened n law) } ∷ []) ≡ (if c == n then law else law_at c ds)
law_opened n c law ds o fresh = elim (cases_eq c n) [
  | inl e ↦ new e
  | inr q ↦ law_kept c ds d (ne_eqb c n q) ∙ sym (ap (λ (t : Bool). if t then law else law_at c ds) (ne_eqb c n q))
]
  where
    d : Done
    d = record { order = o; result = Ok (act.Opened n law) }

    its : (t : Bool) → t ≡ true → law_given (if t then Some (record { order = o; result = Ok (act.Opened n law) }) else None) ≡ law
    its true e = refl
    its false e = cc

    new : c ≡ n → law_at c (ds ++ record { order = o; result = Ok (act.Opened n law) } ∷ []) ≡ (if c == n then law else law_at c ds)
    new e =
        let unopened : is_some (opened_at c ds) ≡ false = ap (λ c. is_some (opened_at c ds)) e ∙ fresh in
        ap law_given (opener-more c ds (d ∷ []) ∙ second_first (opener c ds) _ unopened) ∙ its (c == n) (eq-eqb c n e)
        ∙ sym (ap (λ (t : Bool). if t then law else law_at c ds) (eq-eqb c n e))

-- what an accepted order changes of the laws
abbrev Follows : State → Order → Act → ℕ → Type 0
Follows s o a c = law_at c (s.done ++ record { order = o; result = Ok a } ∷ []) ≡ law_after a (law_now s) c

-- each call has the law after an accepted order that its act says
follows : (s : State) (o : Order) (a : Act) → Finds a (opened_now s) (open_now s) (partner_now s) → (c : ℕ) → Follows s o a c
follows s o (act.Opened n law) f c = law_opened n c law s.done o f.1
follows s o (act.Closed n p) f c = law_kept c s.done _ refl
follows s o (act.Bridged a b) f c = law_kept c s.done _ refl
follows s o (act.Unbridged a b) f c = law_kept c s.done _ refl
follows s o (act.LevelSet n v) f c = law_kept c s.done _ refl
follows s o (act.DtxSet n m) f c = law_kept c s.done _ refl

-- **The laws after an accepted order are those of the definition.**
pub law_more : (s n : State) (o : Order) (a : Act) → (done_by s o).result ≡ Ok a → n ≡ after_turn s (Some o) →
    Finds a (opened_now s) (open_now s) (partner_now s) → (c : ℕ) → law_now n c ≡ law_after a (law_now s) c
law_more s n o a same next finds c =
    ap (λ (n : State). law_now n c) next ∙ ap (λ (x : Result Act Refusal). law_at c (s.done ++ record { order = o; result = x } ∷ [])) same
    ∙ follows s o a finds c
