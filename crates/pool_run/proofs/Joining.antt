-- The joins of the passes.
use Rattle.std.proofs.Common.{◌≡◌, ◌≢◌, ℕ, ◌+◌, ◌<◌, List, [], ◌∷◌, ◌++◌, length, All, set, get_or, get_or-set_same, get_or-set_other, Option, None, Some}
use Rattle.std.proofs.Common.{IfSome, sym, ap, ◌∙◌, subst, ⊎_elim, arith, add-one, length-append}
use Rattle.std.specs.Global.{Global, Vec}
use Rattle.std.proofs.lemmas.Bool.{cases_eq}
use Rattle.std.specs.Option.{option_to_list}
use Rattle.std.proofs.Math.ListN.{length-set}
use Rattle.std.proofs.Math.Seq.{get_or-append_seam}
use Rattle.std.proofs.lemmas.List.{get_or_append_left}
use Rattle.trau_num.proofs.Lists.{each_set, no_items}
use Rattle.crossbeam_deque.specs.Handles.{view, IsPassOf, worker_deque, stealer_deque, worker_view, SameWorker}
use Rattle.crossbeam_deque.specs.declared.handles.Worker.{Worker}
use Rattle.pool_run.specs.declared.deque.View.{View}
use Rattle.pool_run.specs.declared.deque.Task.{Task}
use Rattle.pool_run.specs.declared.deque.OneDeque.{OneDeque}
use Rattle.pool_run.specs.declared.member.Member.{Member}
use Rattle.trau_num.specs.Weights.{weigh}
use Rattle.pool_run.specs.Deque.{IsCovered}
use Rattle.pool_run.specs.Member.{Thief, Knower, IsPassFor, IsEnded, given, obtained}
use Rattle.pool_run.specs.Pool.{IsPool, IsOwner, passes_of, all_given, all_obtained}
use Rattle.pool_run.specs.Joins.{HasRow, IsShared, IsLastTaken, below, rows_at}
use Rattle.trau_num.proofs.Weights.{weigh-append}
use Rattle.pool_run.proofs.Weights.{weigh-set, weigh_ones, weigh_zeros}
use Rattle.pool_run.proofs.Lists.{any_of, below_at, below_lt, below_other, below_self}
use Rattle.pool_run.proofs.Rows.{has_pass, passes_at, passes_set_same, passes_set_other, passes_set_kept}

module _ {W : Type 0} (finish : W → W) (thieves : List (Thief W)) where
  module _ (ms : List (Member W)) (j : ℕ) (r : Member W) (v : Vec (Knower W)) (p : Knower W) (shared : IsShared finish thieves ms 0 0) (there : j < length ms)
      (items : (get_or ms j r).passes.items ≡ v.items ++ p ∷ []) where
    abbrev pub popped_row : Member W
    popped_row = record (get_or ms j r) { passes = v }

    len : length (get_or ms j r).passes.items ≡ length v.items + 1
    len = omega (arith, ap length items, length-append v.items (p ∷ []))

    in_row : length v.items < length thieves
    in_row = let s = (shared.rows j r there).few in let l = len in omega arith

    has_row : HasRow finish thieves popped_row
    has_row = let s = shared.rows j r there in record {
      fifo = s.fifo;
      parts = s.parts;
      few = let f = s.few in let l = len in omega arith;
      each =
          λ k t q in_range. subst (IsPassFor (get_or thieves k t))
          (ap (λ (l : List (Knower W)). get_or l k q) items ∙ get_or_append_left v.items (p ∷ []) q k in_range) (s.each k t q (let l = len in omega arith));
      ended = s.ended;
    }

    is_for : (t : Thief W) → IsPassFor (get_or thieves (length v.items) t) p
    is_for t = let s = shared.rows j r there in
        subst (IsPassFor (get_or thieves (length v.items) t))
        (ap (λ (l : List (Knower W)). get_or l (length v.items) p) items ∙ get_or-append_seam v.items p [] p)
        (s.each (length v.items) t p (let l = len in omega arith))

    rows : (i : ℕ) → rows_at i (set ms j popped_row) + below i (length v.items + 1) ≡ rows_at i ms + below i (length v.items)
    rows i = omega (arith, weigh-set (has_pass i) ms j popped_row r there, ap (below i) len)

    taken_shared : IsShared finish thieves (set ms j popped_row) (length v.items + 1) (length v.items)
    taken_shared = record {
      pair = length-set ms j popped_row ∙ shared.pair;
      own =
          λ k t d in_range. each_set (λ (k : ℕ) (x : Member W). worker_deque x.own ≡ stealer_deque (get_or thieves k t)) ms j popped_row there
          (shared.own j t r there) (λ k d h. shared.own k t d h) k d in_range;
      rows = each_set (λ (k : ℕ) (x : Member W). HasRow finish thieves x) ms j popped_row there has_row shared.rows;
      parts =
          each_set (λ (k : ℕ) (x : Member W). (worker_view x.own).parts + rows_at k (set ms j popped_row) + below k (length v.items + 1) ≡ 1024 + below k
          (length v.items)) ms j popped_row there
          (omega (arith, shared.parts j r there, rows j)) (λ k d h. omega (arith, shared.parts k d h, rows k));
    }

    pub taken : IsLastTaken finish thieves ms (set ms j popped_row) j p
    taken =
        let same : passes_of (set ms j popped_row) j ≡ v.items = passes_set_same ms j popped_row there in
        let was : passes_of ms j ≡ (get_or ms j r).passes.items = passes_at ms j r there in
        let l : length (passes_of (set ms j popped_row) j) ≡ length v.items = ap length same in record {
          shared = subst (λ (n : ℕ). IsShared finish thieves (set ms j popped_row) (n + 1) n) (sym l) taken_shared;
          there = let i = in_row in omega (arith, length-set ms j popped_row, shared.pair);
          is_for = λ t. subst (λ (n : ℕ). IsPassFor (get_or thieves n t) p) (sym l) (is_for t);
          given = λ h. omega (arith, weigh-set (given finish h) ms j popped_row r there);
          obtained =
              λ h. omega (
                arith,
                weigh-set (obtained h) ms j popped_row r there,
                ap (weigh (λ (q : Knower W). weigh h (view q).obtained)) items,
                weigh-append (λ (q : Knower W). weigh h (view q).obtained) v.items (p ∷ []),
              );
          mine = let e = ap length was in let f = len in omega arith;
          others = λ i ne. passes_set_other ms i j popped_row ne;
        }

  module _ (ms : List (Member W)) (k : ℕ) (r : Member W) (w : Worker (Task W) Global (View W) OneDeque) (pass : Knower W)
      (shared : IsShared finish thieves ms (k + 1) k) (there : k < length ms)
      (is_for : (t : Thief W) → IsPassFor (get_or thieves k t) pass) (t : Thief W)
      (same : SameWorker (get_or ms k r).own w)
      (is : worker_view w ≡ record {
        parts = (worker_view (get_or ms k r).own).parts + (view pass).parts;
        pushed = (worker_view (get_or ms k r).own).pushed ++ (view pass).pushed;
        obtained = (worker_view (get_or ms k r).own).obtained ++ (view pass).obtained;
      }) where
    abbrev pub joined : Member W
    joined = record (get_or ms k r) { own = w }

    parts_now : (worker_view w).parts ≡ (worker_view (get_or ms k r).own).parts + 1
    parts_now = omega (arith, ap (λ (u : View W). u.parts) is, (is_for t).part)

    rows_same : (i : ℕ) → rows_at i (set ms k joined) ≡ rows_at i ms
    rows_same i = omega (arith, weigh-set (has_pass i) ms k joined r there)

    joined_shared : IsShared finish thieves (set ms k joined) 0 0
    joined_shared = let s = shared.rows k r there in record {
      pair = length-set ms k joined ∙ shared.pair;
      own =
          λ i t d in_range. each_set (λ (i : ℕ) (x : Member W). worker_deque x.own ≡ stealer_deque (get_or thieves i t)) ms k joined there
          (same.0 ∙ shared.own k t r there) (λ i d h. shared.own i t d h) i d in_range;
      rows = each_set (λ (i : ℕ) (x : Member W). HasRow finish thieves x) ms k joined there
          (record { fifo = same.1 ∙ s.fifo; parts = omega (arith, parts_now); few = s.few; each = s.each; ended = s.ended }) shared.rows;
      parts = λ i d in_range. ⊎_elim
          (λ (e : i ≡ k). subst (λ (n : ℕ). (worker_view (get_or (set ms k joined) n d).own).parts + rows_at n (set ms k joined) + 0 ≡ 1024 + 0) (sym e)
          (omega (
            arith,
            ap (λ (x : Member W). (worker_view x.own).parts) (get_or-set_same ms k joined d there),
            parts_now,
            shared.parts k r there,
            rows_same k,
            ap (below k) (add-one k),
            below_at k,
            below_self k,
          )))
          (λ (ne : i ≢ k). omega (
            arith,
            ap (λ (x : Member W). (worker_view x.own).parts) (get_or-set_other ms k i joined d ne),
            shared.parts i d (omega (arith, length-set ms k joined)),
            rows_same i,
            ap (below i) (add-one k),
            below_other i k ne,
          ))
          (cases_eq i k);
    }

    joined_given : (h : ℕ × W → ℕ) → all_given finish h (set ms k joined) ≡ all_given finish h ms
    joined_given h =
        omega (
          arith,
          weigh-set (given finish h) ms k joined r there,
          ap (λ (u : View W). weigh h u.pushed) is,
          weigh-append h (worker_view (get_or ms k r).own).pushed (view pass).pushed,
          ap (weigh h) (is_for t).pushed,
        )

    joined_obtained : (h : ℕ × W → ℕ) → all_obtained h (set ms k joined) ≡ all_obtained h ms + weigh h (view pass).obtained
    joined_obtained h =
        omega (
          arith,
          weigh-set (obtained h) ms k joined r there,
          ap (λ (u : View W). weigh h u.obtained) is,
          weigh-append h (worker_view (get_or ms k r).own).obtained (view pass).obtained,
        )

    joined_passes : (i : ℕ) → passes_of (set ms k joined) i ≡ passes_of ms i
    joined_passes = passes_set_kept ms k joined there (sym (passes_at ms k r there))

    pub joined_pass : record {
      shared : IsShared finish thieves (set ms k joined) 0 0;
      given : (h : ℕ × W → ℕ) → all_given finish h (set ms k joined) ≡ all_given finish h ms;
      obtained : (h : ℕ × W → ℕ) → all_obtained h (set ms k joined) ≡ all_obtained h ms + weigh h (view pass).obtained;
      passes : (i : ℕ) → passes_of (set ms k joined) i ≡ passes_of ms i;
    }
    joined_pass = record { shared = joined_shared; given = joined_given; obtained = joined_obtained; passes = joined_passes }

module _ {W : Type 0} (finish : W → W) (thieves : List (Thief W)) where
  pub any_thief : (ms : List (Member W)) (k a b : ℕ) → IsShared finish thieves ms a b → k < length ms → Thief W
  any_thief ms k a b shared there = any_of thieves k (let p = shared.pair in omega arith)

  pub pass_is : (ms : List (Member W)) (k : ℕ) (r : Member W) (pass : Knower W) (a b : ℕ) → IsShared finish thieves ms a b → k < length ms →
      ((t : Thief W) → IsPassFor (get_or thieves k t) pass) → IsPassOf (worker_deque (get_or ms k r).own) pass
  pass_is ms k r pass a b shared there is_for =
      let t = any_thief ms k a b shared there in subst (λ d. IsPassOf d pass) (sym (shared.own k t r there)) (is_for t).pass

  pub taken_some : (ms : List (Member W)) (j : ℕ) (r : Member W) (v : Vec (Knower W)) (o : Option (Knower W)) → IsShared finish thieves ms 0 0 → j < length ms →
      (get_or ms j r).passes.items ≡ v.items ++ option_to_list o →
      IfSome o (λ p. IsLastTaken finish thieves ms (set ms j (record (get_or ms j r) { passes = v })) j p)
  taken_some ms j r v None shared there items = tt
  taken_some ms j r v (Some p) shared there items = taken finish thieves ms j r v p shared there items

module _ {W : Type 0} (finish : W → W) (thieves : List (Thief W)) where
  pub pool_shared : (ms : List (Member W)) → IsPool finish thieves ms → IsShared finish thieves ms 0 0
  pool_shared ms pool = record {
    pair = pool.pair;
    own = pool.own;
    rows = λ k m h. let r = pool.ready k m h in record {
      fifo = r.fifo;
      parts = r.parts;
      few = let e = r.one_each in omega arith;
      each = λ i t p in_row. r.each i t p (let e = r.one_each in omega arith);
      ended = r.ended;
    };
    parts = λ k m h.
        let rows : rows_at k ms ≡ length ms =
        weigh_ones (λ (x : Member W). below k (length x.passes.items)) ms
        (λ i d in_range. below_lt k (length (get_or ms i d).passes.items) (let e = (pool.ready i d in_range).one_each in let q = pool.pair in omega arith)) in
        omega (arith, pool.parts k m h, rows, pool.pair);
  }

  pub all_owners : (ms : List (Member W)) → IsShared finish thieves ms 0 0 → ((i : ℕ) → i < length ms → length (passes_of ms i) ≡ 0) →
      All (λ (m : Member W). IsOwner m × All (IsEnded finish) m.done.items) ms
  all_owners ms shared none k m h =
      let empty : (i : ℕ) (d : Member W) → i < length ms → length (get_or ms i d).passes.items ≡ 0 =
      λ i d i_in. omega (arith, none i i_in, ap length (passes_at ms i d i_in)) in
      let rows : rows_at k ms ≡ 0 = weigh_zeros (λ (x : Member W). below k (length x.passes.items)) ms (λ i d i_in. ap (below k) (empty i d i_in)) in
      let s = shared.rows k m h in (
        record { fifo = s.fifo; parts = omega (arith, shared.parts k m h, rows); joined = no_items (get_or ms k m).passes.items (empty k m h) },
        s.ended,
      )

-- an owner that was audited is the same
module _ {W : Type 0} (finish : W → W) (ms : List (Member W)) (k : ℕ) (r : Member W) (w : Worker (Task W) Global (View W) OneDeque) (there : k < length ms)
    (same : SameWorker (get_or ms k r).own w) (is : worker_view w ≡ worker_view (get_or ms k r).own) where
  abbrev audited : Member W
  audited = record (get_or ms k r) { own = w }

  abbrev Owners : List (Member W) → Type 0
  Owners xs = All (λ (m : Member W). IsOwner m × All (IsEnded finish) m.done.items) xs

  pub audited_owner : Owners ms → IsCovered (worker_view (get_or ms k r).own) → record {
    owners : Owners (set ms k audited);
    given : (h : ℕ × W → ℕ) → all_given finish h (set ms k audited) ≡ all_given finish h ms;
    obtained : (h : ℕ × W → ℕ) → all_obtained h (set ms k audited) ≡ all_obtained h ms;
    mine : (m : Member W) → IsCovered (worker_view (get_or (set ms k audited) k m).own);
    others : (i : ℕ) (m : Member W) → i ≢ k → get_or (set ms k audited) i m ≡ get_or ms i m;
  }
  audited_owner owners covered = let own = owners k r there in record {
    owners = each_set (λ (i : ℕ) (m : Member W). IsOwner m × All (IsEnded finish) m.done.items) ms k audited there
        (record { fifo = same.1 ∙ own.0.fifo; parts = ap (λ (v : View W). v.parts) is ∙ own.0.parts; joined = own.0.joined }, own.1) owners;
    given = λ h. omega (arith, weigh-set (given finish h) ms k audited r there, ap (λ (v : View W). weigh h v.pushed) is);
    obtained = λ h. omega (arith, weigh-set (obtained h) ms k audited r there, ap (λ (v : View W). weigh h v.obtained) is);
    mine = λ m. subst (λ (x : Member W). IsCovered (worker_view x.own)) (sym (get_or-set_same ms k audited m there)) (subst IsCovered (sym is) covered);
    others = λ i m ne. get_or-set_other ms k i audited m ne;
  }
