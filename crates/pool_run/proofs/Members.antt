-- What a worker's steps keep.
use Rattle.std.proofs.Common.{◌≡◌, ◌≢◌, ℕ, ◌+◌, ◌<◌, List, [], ◌∷◌, ◌++◌, length, map, All, set, get_or, sym, refl, ap, ◌∙◌, subst, ⊎_elim, arith, Option, None}
use Rattle.std.proofs.Common.{Some, MatchOption, Result, Ok, Err, MatchResult, get_or-set_same, get_or-set_other}
use Rattle.std.specs.Global.{Global, Vec}
use Rattle.std.specs.Result.{result_err}
use Rattle.std.proofs.Math.ListN.{length-set}
use Rattle.std.proofs.lemmas.Bool.{cases_eq}
use Rattle.std.proofs.lemmas.List.Elements.{All-append, All-cons}
use Rattle.std.proofs.lemmas.List.{map-append}
use Rattle.trau_num.proofs.Lists.{same_default}
use Rattle.crossbeam_deque.specs.Steals.{MatchSteal}
use Rattle.crossbeam_deque.specs.declared.steal.Steal.{Steal}
use Rattle.crossbeam_deque.specs.declared.steal.Steal.TheVariants.{Empty, Success, Retry}
use Rattle.crossbeam_deque.specs.Handles.{view, IsPassOf, stealer_deque, worker_view, SameWorker}
use Rattle.crossbeam_deque.specs.declared.handles.Worker.{Worker}
use Rattle.pool_run.specs.declared.deque.View.{View}
use Rattle.pool_run.specs.declared.deque.Task.{Task}
use Rattle.pool_run.specs.declared.deque.OneDeque.{OneDeque}
use Rattle.pool_run.specs.declared.member.Member.{Member}
use Rattle.trau_num.specs.Weights.{weigh}
use Rattle.pool_run.specs.Deque.{entry_of, after_push, after_take}
use Rattle.pool_run.specs.Member.{Thief, Knower, IsPassFor, IsEnded, IsReady, held, Moves, stolen_job}
use Rattle.trau_num.proofs.Weights.{weigh-append}
use Rattle.pool_run.proofs.Weights.{weigh-set}

module _ {W : Type 0} (finish : W → W) (thieves : List (Thief W)) where
  abbrev Deque : Type 0
  Deque = Worker (Task W) Global (View W) OneDeque

  pub moves_refl : (m : Member W) (hand : Option (Task W)) → IsReady finish thieves m → Moves finish thieves m hand m hand
  moves_refl m hand ready = record { ready = ready; deque = refl; parts = refl; balance = λ h. refl }

  pub moves_trans : (a b c : Member W) (x y z : Option (Task W)) → Moves finish thieves a x b y → Moves finish thieves b y c z → Moves finish thieves a x c z
  moves_trans a b c x y z m n = record {
    ready = n.ready;
    deque = n.deque ∙ m.deque;
    parts = n.parts ∙ m.parts;
    balance = λ h. omega (arith, m.balance h, n.balance h);
  }

  pub moves_from : (a b : Member W) (x y z : Option (Task W)) → x ≡ y → Moves finish thieves a y b z → Moves finish thieves a x b z
  moves_from a b x y z e m = subst (λ (o : Option (Task W)). Moves finish thieves a o b z) (sym e) m

  -- a step that leaves `y` in hand, and one after which the worker has ended
  pub stepped : (a b : Member W) (x y : Option (Task W)) → Moves finish thieves a x b y → record {
    none : Some y ≡ None → Moves finish thieves a x b None;
    some : (next : Option (Task W)) → Some y ≡ Some next → Moves finish thieves a x b next;
  }
  stepped a b x y m = record { none = λ e. absurd (cc); some = λ next e. let is : y ≡ next = cc in subst (Moves finish thieves a x b) is m }

  pub no_step : (a b : Member W) (x : Option (Task W)) (o : Option (Option (Task W))) → o ≡ None → Moves finish thieves a x b None → record {
    none : o ≡ None → Moves finish thieves a x b None;
    some : (next : Option (Task W)) → o ≡ Some next → Moves finish thieves a x b next;
  }
  no_step a b x o is m = record { none = λ e. m; some = λ next e. absurd (cc) }

  -- a job that was run for a slice stays the same entry
  pub moves_run : (a b : Member W) (t u : Task W) (z : Option (Task W)) → entry_of finish u ≡ entry_of finish t → Moves finish thieves a (Some u) b z →
      Moves finish thieves a (Some t) b z
  moves_run a b t u z e m = record { ready = m.ready; deque = m.deque; parts = m.parts; balance = λ h. omega (arith, m.balance h, ap h e) }

  -- from a job in hand, and from one that was found with none in hand
  pub from_hand : (a b mid : Member W) (hand : Option (Task W)) (task was : Task W) (z : Option (Task W)) → hand ≡ Some was → mid ≡ a → task ≡ was →
      Moves finish thieves mid (Some task) b z → Moves finish thieves a hand b z
  from_hand a b mid hand task was z hand_is mid_is task_is m =
      moves_from a b hand (Some task) z (hand_is ∙ ap Some (sym task_is)) (subst (λ (x : Member W). Moves finish thieves x (Some task) b z) mid_is m)

  pub from_found : (a b mid found : Member W) (hand : Option (Task W)) (task was : Task W) (z : Option (Task W)) → hand ≡ None → mid ≡ found → task ≡ was →
      Moves finish thieves a None found (Some was) → Moves finish thieves mid (Some task) b z → Moves finish thieves a hand b z
  from_found a b mid found hand task was z hand_is mid_is task_is got m = moves_from a b hand None z hand_is (moves_trans a found b None (Some was) z got
      (subst (λ (x : Member W). Moves finish thieves x (Some was) b z) mid_is (subst (λ (t : Task W). Moves finish thieves mid (Some t) b z) task_is m)))

  own_ready : (old : Member W) (w : Deque) → SameWorker old.own w → (worker_view w).parts ≡ (worker_view old.own).parts → IsReady finish thieves old →
      IsReady finish thieves (record old { own = w })
  own_ready old w same parts ready =
      record { fifo = same.1 ∙ ready.fifo; parts = let p = ready.parts in omega arith; one_each = ready.one_each; each = ready.each; ended = ready.ended }

  pub popped : (old : Member W) (w : Deque) (r : Option (Task W)) → IsReady finish thieves old → SameWorker old.own w
      → MatchOption r (worker_view w ≡ worker_view old.own) (λ t. worker_view w ≡ after_take finish (worker_view old.own) (t ∷ []))
      → Moves finish thieves old None (record old { own = w }) r
  popped old w None ready same is = let p : (worker_view w).parts ≡ (worker_view old.own).parts = ap (λ (v : View W). v.parts) is in record {
    ready = own_ready old w same p ready;
    deque = same.0;
    parts = p;
    balance = λ h. omega (arith, ap (λ (v : View W). weigh h v.pushed) is, ap (λ (v : View W). weigh h v.obtained) is);
  }
  popped old w (Some t) ready same is = let p : (worker_view w).parts ≡ (worker_view old.own).parts = ap (λ (v : View W). v.parts) is in record {
    ready = own_ready old w same p ready;
    deque = same.0;
    parts = p;
    balance =
        λ h. omega (
          arith,
          ap (λ (v : View W). weigh h v.pushed) is,
          ap (λ (v : View W). weigh h v.obtained) is,
          weigh-append h (worker_view old.own).obtained (entry_of finish t ∷ []),
        );
  }

  pub pushed_on : (old : Member W) (w : Deque) (task : Task W) (r : Result (Unit {0}) (Task W)) (next : Option (Task W)) → IsReady finish thieves old →
      SameWorker old.own w →
      MatchResult r (λ _. worker_view w ≡ after_push finish (worker_view old.own) (task ∷ [])) (λ t. (t ≡ task) × (worker_view w ≡ worker_view old.own)) →
      MatchResult r (λ _. next ≡ None) (λ t. next ≡ Some t) → Moves finish thieves old (Some task) (record old { own = w }) next
  pushed_on old w task (Ok u) next ready same is left =
      let p : (worker_view w).parts ≡ (worker_view old.own).parts = ap (λ (v : View W). v.parts) is in record {
        ready = own_ready old w same p ready;
        deque = same.0;
        parts = p;
        balance =
            λ h. omega (
              arith,
              ap (λ (v : View W). weigh h v.pushed) is,
              ap (λ (v : View W). weigh h v.obtained) is,
              weigh-append h (worker_view old.own).pushed (entry_of finish task ∷ []),
              ap (λ (o : Option (Task W)). weigh h (held finish o)) left,
            );
      }
  pushed_on old w task (Err t) next ready same is left =
      let p : (worker_view w).parts ≡ (worker_view old.own).parts = ap (λ (v : View W). v.parts) is.1 in record {
        ready = own_ready old w same p ready;
        deque = same.0;
        parts = p;
        balance =
            λ h. omega (
              arith,
              ap (λ (v : View W). weigh h v.pushed) is.1,
              ap (λ (v : View W). weigh h v.obtained) is.1,
              ap (λ (o : Option (Task W)). weigh h (held finish o)) left,
              ap (λ (s : Task W). weigh h (entry_of finish s ∷ [])) is.0,
            );
      }

  pub err_of : (r : Result (Unit {0}) (Task W)) (next : Option (Task W)) → next ≡ result_err r → MatchResult r (λ _. next ≡ None) (λ t. next ≡ Some t)
  err_of (Ok u) next e = e
  err_of (Err t) next e = e

  pub kept : (old : Member W) (v : Vec (Task W)) (task : Task W) (next : Option (Task W)) → IsReady finish thieves old
      → IsEnded finish task
      → MatchOption next (v.items ≡ old.done.items ++ task ∷ []) (λ t. (t ≡ task) × (v.items ≡ old.done.items))
      → Moves finish thieves old (Some task) (record old { done = v }) next
  kept old v task None ready end is = record {
    ready = record {
      fifo = ready.fifo;
      parts = ready.parts;
      one_each = ready.one_each;
      each = ready.each;
      ended =
          subst (All (IsEnded finish)) (sym is)
          (All-append (IsEnded finish) old.done.items (task ∷ []) ready.ended (All-cons (IsEnded finish) task [] end (λ k d h. absurd (omega arith))));
    };
    deque = refl;
    parts = refl;
    balance =
        λ h. let m : map (entry_of finish) v.items ≡ map (entry_of finish) old.done.items ++ entry_of finish task ∷ [] = ap (map (entry_of finish)) is
        ∙ map-append (entry_of finish) old.done.items (task ∷ []) in
        omega (arith, ap (weigh h) m, weigh-append h (map (entry_of finish) old.done.items) (entry_of finish task ∷ []));
  }
  kept old v task (Some t) ready end is = record {
    ready = record {
      fifo = ready.fifo;
      parts = ready.parts;
      one_each = ready.one_each;
      each = ready.each;
      ended = subst (All (IsEnded finish)) (sym is.1) ready.ended;
    };
    deque = refl;
    parts = refl;
    balance = λ h. omega (arith, ap (λ xs. weigh h (map (entry_of finish) xs)) is.1, ap (λ (s : Task W). weigh h (entry_of finish s ∷ [])) is.0);
  }

  each_kept : (ps : List (Knower W)) (k : ℕ) (p : Knower W) → length ps ≡ length thieves → k < length thieves →
      ((t : Thief W) → IsPassFor (get_or thieves k t) p) →
      ((j : ℕ) (t : Thief W) (q : Knower W) → j < length thieves → IsPassFor (get_or thieves j t) (get_or ps j q)) → (j : ℕ) (t : Thief W) (q : Knower W) →
      j < length thieves → IsPassFor (get_or thieves j t) (get_or (set ps k p) j q)
  each_kept ps k p len there mine old j t q in_range =
      let len' : k < length ps = omega arith in
      ⊎_elim (λ (e : j ≡ k). subst (λ (i : ℕ). IsPassFor (get_or thieves i t) (get_or (set ps k p) i q)) (sym e)
      (subst (IsPassFor (get_or thieves k t)) (sym (get_or-set_same ps k p q len')) (mine t)))
      (λ (ne : j ≢ k). subst (IsPassFor (get_or thieves j t)) (sym (get_or-set_other ps k j p q ne)) (old j t q in_range)) (cases_eq j k)

  module _ (old : Member W) (v : Vec (Knower W)) (k : ℕ) (p was : Knower W) (s : Thief W) (ready : IsReady finish thieves old) (there : k < length thieves)
      (items : v.items ≡ set old.passes.items k p) (was_is : was ≡ get_or old.passes.items k was) (s_is : s ≡ get_or thieves k s)
      (pass : IsPassOf (stealer_deque s) p) where
    was_for : IsPassFor s was
    was_for = subst (λ (t : Thief W). IsPassFor t was) (sym s_is) (subst (IsPassFor (get_or thieves k s)) (sym was_is) (ready.each k s was there))

    ready_after : (view p).parts ≡ 1 → (view p).pushed ≡ [] → IsReady finish thieves (record old { passes = v })
    ready_after part pushed = record {
      fifo = ready.fifo;
      parts = ready.parts;
      one_each = ap length items ∙ length-set old.passes.items k p ∙ ready.one_each;
      each = λ j t q in_range. subst (λ (xs : List (Knower W)). IsPassFor (get_or thieves j t) (get_or xs j q)) (sym items)
          (each_kept old.passes.items k p ready.one_each there
          (λ t. subst (λ (u : Thief W). IsPassFor u p) (s_is ∙ same_default thieves k s t there)
          (record { pass = pass; fifo = was_for.fifo; part = part; pushed = pushed }))
          ready.each j t q in_range);
      ended = ready.ended;
    }

    weighs : (h : ℕ × W → ℕ) →
        weigh (λ (q : Knower W). weigh h (view q).obtained) v.items + weigh h (view was).obtained
        ≡ weigh (λ (q : Knower W). weigh h (view q).obtained) old.passes.items + weigh h (view p).obtained
    weighs h = let there' : k < length old.passes.items = let e = ready.one_each in omega arith in
        let s = weigh-set (λ (q : Knower W). weigh h (view q).obtained) old.passes.items k p was there' in
        omega (arith, ap (weigh (λ (q : Knower W). weigh h (view q).obtained)) items, ap (λ (q : Knower W). weigh h (view q).obtained) was_is)

    unmoved : view p ≡ view was → Moves finish thieves old None (record old { passes = v }) None
    unmoved is = record {
      ready = ready_after (ap (λ (u : View W). u.parts) is ∙ was_for.part) (ap (λ (u : View W). u.pushed) is ∙ was_for.pushed);
      deque = refl;
      parts = refl;
      balance = λ h. omega (arith, weighs h, ap (λ (u : View W). weigh h u.obtained) is);
    }

    pub stolen : (r : Steal (Task W)) → MatchSteal r (view p ≡ view was) (view p ≡ view was) (λ t. view p ≡ after_take finish (view was) (t ∷ [])) →
        Moves finish thieves old None (record old { passes = v }) (stolen_job r)
    stolen Empty is = unmoved is
    stolen Retry is = unmoved is
    stolen (Success t) is = record {
      ready = ready_after (ap (λ (u : View W). u.parts) is ∙ was_for.part) (ap (λ (u : View W). u.pushed) is ∙ was_for.pushed);
      deque = refl;
      parts = refl;
      balance = λ h. omega (arith, weighs h, ap (λ (u : View W). weigh h u.obtained) is, weigh-append h (view was).obtained (entry_of finish t ∷ []));
    }
