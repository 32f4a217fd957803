-- There is a run over told lines, whatever failed.
use Rattle.std.proofs.Common.{◌≡◌, refl, sym, ap, subst, ◌∙◌, ℕ, suc, ◌<◌, ◌-◌, Bool, true, false, Option, Some, is_some, Result, Ok, Err, List, [], ◌∷◌}
use Rattle.std.proofs.Common.{◌++◌, length, take, drop, get_or, inl, inr, arith, append-nil}
use Rattle.std.specs.Prelude.{unwrap_or, option_map, find, filter, nat_lt, if◌then◌else◌, IfOk}
use Rattle.std.specs.List.{AllByRecursion}
use Rattle.std.proofs.lemmas.Bool.{cases_Bool, cases_lt, eqb-true}
use Rattle.std.proofs.lemmas.List.{length-drop, take-append-drop, take_all, drop_all}
use Rattle.trau_io.specs.declared.line.Side.{Side}
use Rattle.trau_io.specs.declared.line.Side.TheVariants.{Up, Pcm}
use Rattle.trau_io.specs.Lines.{LineState}
use Rattle.call_number.specs.CallNumber.{IsCallNumber}
use Rattle.trau_orders.specs.declared.order.Order.{Order}
use Rattle.trau_orders.specs.Lists.{AreOrders, NamesCalls, HasLevel}
use Rattle.switchboard.specs.declared.act.Act.{Act}
use Rattle.switchboard.specs.declared.act.Act.TheVariants as act
use Rattle.switchboard.specs.declared.act.Refusal.{Refusal}
use Rattle.switchboard.specs.Calls.{Done, opened_by, is_this, opened_at, gone_at}
use Rattle.switchboard.specs.Replies.{IsInRange, known_of, reply_to}
use Rattle.switchboard.specs.Runs.{done_after}
use Rattle.switchboard.proofs.Orders.InRange.{in_range}
use Rattle.round_lines.specs.Rounds.{IsIncoming}
use Rattle.run_spec.specs.Run.{Run, done_in, whole_in, IsOpened}
use Rattle.run_spec.proofs.Lists.{each_filter}
use Rattle.farm_run.specs.Runs.{IsGiven, IsRunOver}

-- what a line gave in the run
abbrev given_by : Bool → LineState → LineState → List ℕ
given_by false before now = unwrap_or before.to_come []
given_by true before now = let octets = unwrap_or before.to_come [] in take (length octets - length (unwrap_or now.to_come [])) octets

-- the octets in front of those that are left
front : (k : ℕ) (xs : List ℕ) → xs ≡ take (length xs - length (drop k xs)) xs ++ drop k xs
front k xs = elim (cases_lt (length xs) k) [
  | inl l ↦
      let none : drop k xs ≡ [] = drop_all k xs (omega (arith, l)) in
      let n : length xs - length (drop k xs) ≡ length xs = omega (arith, length-drop k xs, l) in
      sym (ap (λ (i : ℕ). take i xs ++ drop k xs) n ∙ ap (λ (ys : List ℕ). take (length xs) xs ++ ys) none ∙ append-nil (take (length xs) xs)
      ∙ take_all (length xs) xs (omega arith))
  | inr l ↦
      let n : length xs - length (drop k xs) ≡ k = omega (arith, length-drop k xs, l) in
      sym (ap (λ (i : ℕ). take i xs ++ drop k xs) n ∙ take-append-drop k xs)
]

-- those are the octets that the line is to give
is_given : (fails : Bool) (before now : LineState) →
    ((octets : List ℕ) × (k : ℕ) × (before.to_come ≡ Some octets)
    × (now.to_come ≡ Some (drop k octets))) →
    IsGiven fails before now (given_by fails before now)
is_given false before now h = h.2 ∙ ap Some (sym (ap (λ (u : Option (List ℕ)). unwrap_or u []) h.2))
is_given true before now h =
    let octets = h.0 in
    let k = h.1 in
    let was : unwrap_or before.to_come [] ≡ octets = ap (λ (u : Option (List ℕ)). unwrap_or u []) h.2 in
    let is : unwrap_or now.to_come [] ≡ drop k octets = ap (λ (u : Option (List ℕ)). unwrap_or u []) h.3 in
    let given : given_by true before now ≡ take (length octets - length (drop k octets)) octets =
    ap (λ (xs : List ℕ). take (length xs - length (unwrap_or now.to_come [])) xs) was ∙ ap (λ (ys : List ℕ). take (length octets - length ys) octets) is in
    (drop k octets, h.2 ∙ ap Some (front k octets ∙ ap (λ (xs : List ℕ). xs ++ drop k octets) (sym given)), h.3)

-- ---- a call that is opened has a number of a call

-- the act that an order came to is in range, if it was accepted
abbrev IsDoneInRange : Done → Type 0
IsDoneInRange d = IfOk d.result IsInRange

-- an order names calls and levels
abbrev IsOrdered : Order → Type 0
IsOrdered o = NamesCalls o.what × HasLevel o.what

-- one order more
push : (ds : List Done) (d : Done) → AllByRecursion IsDoneInRange ds → IsDoneInRange d → AllByRecursion IsDoneInRange (ds ++ d ∷ [])
push [] d h k = (k, tt)
push (e ∷ ds) d h k = (h.0, push ds d h.1 k)

-- executed orders name numbers of calls where the orders do
executed_in_range : (whole : ℕ → ℕ) (ds : List Done) (os : List Order) → AllByRecursion IsDoneInRange ds → AllByRecursion IsOrdered os →
    AllByRecursion IsDoneInRange (done_after whole ds os)
executed_in_range whole ds [] h k = h
executed_in_range whole ds (o ∷ os) h k =
    let gone = gone_at whole o.stamp ds in
    executed_in_range whole (ds ++ record { order = o; result = reply_to gone ds o } ∷ []) os
    (push ds (record { order = o; result = reply_to gone ds o }) h (in_range (known_of gone o.stamp ds) o.what k.0.0 k.0.1)) k.1

-- a list's conditions, item by item
ordered : (os : List Order) → ((k : ℕ) (d : Order) → k < length os → NamesCalls (get_or os k d).what) →
    ((k : ℕ) (d : Order) → k < length os → HasLevel (get_or os k d).what) → AllByRecursion IsOrdered os
ordered [] calls levels = tt
ordered (o ∷ os) calls levels =
    ((calls 0 o (omega arith), levels 0 o (omega arith)), ordered os (λ k d l. calls (suc k) d (omega arith)) (λ k d l. levels (suc k) d (omega arith)))

-- an order that opens a call names a number of one
named : (c : ℕ) (x : Result Act Refusal) → IfOk x IsInRange → is_this c (opened_by x) ≡ true → IsCallNumber c
named c (Ok (act.Opened m law)) h e = subst IsCallNumber (sym (eqb-true c m e)) h
named c (Ok (act.Closed m p)) h e = cc
named c (Ok (act.Bridged a b)) h e = cc
named c (Ok (act.Unbridged a b)) h e = cc
named c (Ok (act.LevelSet m v)) h e = cc
named c (Ok (act.DtxSet m v)) h e = cc
named c (Err r) h e = cc

-- a call that some order opened has a call's number
some_named : (c : ℕ) (ds : List Done) → AllByRecursion IsDoneInRange ds → is_some (opened_at c ds) ≡ true → IsCallNumber c
some_named c [] h o = cc
some_named c (d ∷ ds) h o = elim (cases_Bool (is_this c (opened_by d.result))) [
  | inl e ↦ named c d.result h.0 e
  | inr e ↦ some_named c ds h.1
      (ap (λ (b : Bool). is_some (option_map (λ (d : Done). d.order.stamp) (if b then Some d else find (λ (d : Done). is_this c (opened_by d.result)) ds)))
      (sym e) ∙ o)
]

-- each call of the run has a call's number
opened_named : (r : Run) (c : ℕ) → AreOrders r.orders → IsOpened r c → IsCallNumber c
opened_named r c are o = some_named c (done_in r) (executed_in_range (whole_in r) [] (filter (λ o. nat_lt o.stamp r.periods) r.orders) tt
    (each_filter IsOrdered _ r.orders (ordered r.orders are.calls are.levels))) o

-- **Such a run.**
pub there_is : (orders : List Order) (periods : ℕ) (fails : ℕ → Side → Bool) (before now : ℕ → Side → LineState) → AreOrders orders →
    ((c : ℕ) (s : Side) → IsCallNumber c → IsIncoming s → (octets : List ℕ) × (k : ℕ) × ((before c s).to_come ≡ Some octets)
    × ((now c s).to_come ≡ Some (drop k octets))) →
    (r : Run) × IsRunOver orders periods fails before now r
there_is orders periods fails before now are told = (
  run,
  record {
    same_orders = refl;
    same_periods = refl;
    up = λ c i. is_given (fails c Up) (before c Up) (now c Up) (told c Up (opened_named run c are i) tt);
    pcm = λ c i. is_given (fails c Pcm) (before c Pcm) (now c Pcm) (told c Pcm (opened_named run c are i) tt);
    up_failed = λ c. refl;
    pcm_failed = λ c. refl;
  },
)
  where
    run : Run
    run = record {
      lines = λ c. record {
        up = given_by (fails c Up) (before c Up) (now c Up);
        pcm = given_by (fails c Pcm) (before c Pcm) (now c Pcm);
        up_failed = fails c Up;
        pcm_failed = fails c Pcm;
      };
      orders = orders;
      periods = periods;
    }
