-- A pass is cut of a worker's deque before the work.
use Rattle.std.proofs.Common.{◌≡◌, ◌≢◌, ℕ, ◌+◌, ◌-◌, ◌<◌, ◌≤◌, List, [], ◌∷◌, length, set, get_or, get_or-set_same, get_or-set_other, sym}
use Rattle.std.proofs.Common.{ap, ◌∙◌, subst, ⊎_elim, arith, add-one}
use Rattle.std.specs.Global.{Global}
use Rattle.std.proofs.lemmas.Bool.{cases_eq}
use Rattle.std.proofs.Math.ListN.{length-set}
use Rattle.trau_num.proofs.Lists.{each_set}
use Rattle.crossbeam_deque.specs.Handles.{worker_deque, stealer_deque, worker_view, SameWorker}
use Rattle.crossbeam_deque.specs.declared.handles.Worker.{Worker}
use Rattle.pool_run.specs.declared.deque.View.{View}
use Rattle.pool_run.specs.declared.deque.Task.{Task}
use Rattle.pool_run.specs.declared.deque.OneDeque.{OneDeque}
use Rattle.pool_run.specs.declared.member.Member.{Member}
use Rattle.trau_num.specs.Weights.{weigh}
use Rattle.pool_run.specs.Deque.{knows}
use Rattle.pool_run.specs.Member.{Thief, given, obtained}
use Rattle.pool_run.specs.Room.{IsUnused}
use Rattle.pool_run.specs.Joins.{HasRow, IsShared, below, rows_at}
use Rattle.pool_run.specs.Pool.{passes_of}
use Rattle.pool_run.proofs.Weights.{weigh-set}
use Rattle.pool_run.proofs.Rows.{has_pass, passes_at, passes_set_kept}
use Rattle.pool_run.proofs.Lists.{below_at, below_self, below_other, below-le}

module _ {W : Type 0} where
  rows-le : (k : ℕ) (ms : List (Member W)) → rows_at k ms ≤ length ms
  rows-le k [] = omega arith
  rows-le k (m ∷ ms) = omega (arith, rows-le k ms, below-le k (length m.passes.items))

module _ {W : Type 0} (finish : W → W) where
  module _ (thieves : List (Thief W)) (ms : List (Member W)) (k : ℕ) (r : Member W) (unused : IsUnused finish thieves ms k) (there : k < length ms)
      (few : length ms ≤ 64) where
    parts_were : (worker_view (get_or ms k r).own).parts + rows_at k ms ≡ 1024
    parts_were = omega (arith, unused.shared.parts k r there, below_self k)

    pub two_parts : 1 < (worker_view (get_or ms k r).own).parts
    two_parts = omega (arith, parts_were, rows-le k ms)

    module _ (w : Worker (Task W) Global (View W) OneDeque) (same : SameWorker (get_or ms k r).own w)
        (is : worker_view w ≡ knows ((worker_view (get_or ms k r).own).parts - 1) (worker_view (get_or ms k r).own).pushed
        (worker_view (get_or ms k r).own).obtained) where
      abbrev pub less : Member W
      less = record (get_or ms k r) { own = w }

      parts_now : (worker_view w).parts + 1 ≡ (worker_view (get_or ms k r).own).parts
      parts_now = let t = two_parts in omega (arith, ap (λ (u : View W). u.parts) is)

      rows_same : (i : ℕ) → rows_at i (set ms k less) ≡ rows_at i ms
      rows_same i = omega (arith, weigh-set (has_pass i) ms k less r there)

      cut_shared : IsShared finish thieves (set ms k less) (k + 1) 0
      cut_shared = let shared = unused.shared in let s = shared.rows k r there in record {
        pair = length-set ms k less ∙ shared.pair;
        own =
            λ i t d in_range. each_set (λ (i : ℕ) (x : Member W). worker_deque x.own ≡ stealer_deque (get_or thieves i t)) ms k less there
            (same.0 ∙ shared.own k t r there) (λ i d h. shared.own i t d h) i d in_range;
        rows = each_set (λ (i : ℕ) (x : Member W). HasRow finish thieves x) ms k less there
            (record {
              fifo = same.1 ∙ s.fifo;
              parts = (let t = two_parts in omega (arith, parts_now));
              few = s.few;
              each = s.each;
              ended = s.ended;
            }) shared.rows;
        parts = λ i d in_range. ⊎_elim
            (λ (e : i ≡ k). subst (λ (n : ℕ). (worker_view (get_or (set ms k less) n d).own).parts + rows_at n (set ms k less) + below n (k + 1) ≡ 1024 + 0)
            (sym e)
            (omega (
              arith,
              ap (λ (x : Member W). (worker_view x.own).parts) (get_or-set_same ms k less d there),
              parts_now,
              parts_were,
              rows_same k,
              ap (below k) (add-one k),
              below_at k,
            )))
            (λ (ne : i ≢ k). omega (
              arith,
              ap (λ (x : Member W). (worker_view x.own).parts) (get_or-set_other ms k i less d ne),
              shared.parts i d (omega (arith, length-set ms k less)),
              rows_same i,
              ap (below i) (add-one k),
              below_other i k ne,
            ))
            (cases_eq i k);
      }

      pub cut_unused : IsUnused finish thieves (set ms k less) (k + 1)
      cut_unused = record {
        shared = cut_shared;
        fifo = unused.fifo;
        given = λ h. omega (arith, unused.given h, weigh-set (given finish h) ms k less r there, ap (λ (u : View W). weigh h u.pushed) is);
        obtained = λ h. omega (arith, unused.obtained h, weigh-set (obtained h) ms k less r there, ap (λ (u : View W). weigh h u.obtained) is);
      }

      pub cut_rows : (i : ℕ) → passes_of (set ms k less) i ≡ passes_of ms i
      cut_rows = passes_set_kept ms k less there (sym (passes_at ms k r there))
