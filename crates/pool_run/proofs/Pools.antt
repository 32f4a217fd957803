-- What the parts of a pool keep.
use Rattle.std.proofs.Common.{◌≡◌, ℕ, zero, suc, ◌+◌, ◌<◌, List, [], ◌∷◌, ◌++◌, length, map, All, set, get_or, None, sym, refl, ap, ◌∙◌, subst, arith}
use Rattle.std.specs.Global.{Global, Box}
use Rattle.std.proofs.lemmas.List.Elements.{All-append, All-cons}
use Rattle.std.proofs.Math.ListN.{length-set}
use Rattle.std.proofs.lemmas.List.{map-append}
use Rattle.trau_num.proofs.Lists.{each_set}
use Rattle.crossbeam_deque.specs.Handles.{worker_deque, stealer_deque, worker_view, SameWorker, worker_index}
use Rattle.crossbeam_deque.specs.declared.handles.Worker.{Worker}
use Rattle.pool_run.specs.declared.deque.View.{View}
use Rattle.pool_run.specs.declared.deque.Task.{Task}
use Rattle.pool_run.specs.declared.deque.OneDeque.{OneDeque}
use Rattle.pool_run.specs.declared.member.Member.{Member}
use Rattle.trau_num.specs.Weights.{weigh}
use Rattle.pool_run.specs.Deque.{entry_of, after_push, after_take}
use Rattle.pool_run.specs.Member.{Thief, IsEnded, IsReady, given, obtained, Moves}
use Rattle.pool_run.specs.Pool.{entries_from, IsPool, all_given, all_obtained}
use Rattle.pool_run.specs.Room.{RoomLeft}
use Rattle.trau_num.proofs.Weights.{weigh-append}
use Rattle.pool_run.proofs.Weights.{weigh-set}
use Rattle.pool_run.proofs.Left.{left_more}

module _ {W : Type 0} (finish : W → W) where
  pub ended_more : (ts us : List (Task W)) (t : Task W) → us ≡ ts ++ t ∷ [] → All (IsEnded finish) ts → IsEnded finish t → All (IsEnded finish) us
  ended_more ts us t is old new =
      subst (All (IsEnded finish)) (sym is) (All-append (IsEnded finish) ts (t ∷ []) old (All-cons (IsEnded finish) t [] new (λ k d h. absurd (omega arith))))

  pub weigh_more : (h : ℕ × W → ℕ) (ts us : List (Task W)) (t : Task W) → us ≡ ts ++ t ∷ [] →
      weigh h (map (entry_of finish) us) ≡ weigh h (map (entry_of finish) ts) + h (entry_of finish t)
  weigh_more h ts us t is =
      let m : map (entry_of finish) us ≡ map (entry_of finish) ts ++ entry_of finish t ∷ [] =
      ap (map (entry_of finish)) is ∙ map-append (entry_of finish) ts (t ∷ []) in
      omega (arith, ap (weigh h) m, weigh-append h (map (entry_of finish) ts) (entry_of finish t ∷ []))

  pub weigh_taken : (h : ℕ × W → ℕ) (v w : View W) (t : Task W) → w ≡ after_take finish v (t ∷ []) →
      weigh h w.obtained ≡ weigh h v.obtained + h (entry_of finish t)
  weigh_taken h v w t is = omega (arith, ap (λ (u : View W). weigh h u.obtained) is, weigh-append h v.obtained (entry_of finish t ∷ []))

  module _ (thieves : List (Thief W)) where
    pub pool_set : (ms : List (Member W)) (k : ℕ) (r m : Member W) → IsPool finish thieves ms → k < length ms →
        worker_deque m.own ≡ worker_deque (get_or ms k r).own → IsReady finish thieves m →
        (worker_view m.own).parts ≡ (worker_view (get_or ms k r).own).parts → IsPool finish thieves (set ms k m)
    pool_set ms k r m pool there deque ready parts = record {
      pair = length-set ms k m ∙ pool.pair;
      own = λ j t d in_range. each_set (λ (j : ℕ) (x : Member W). worker_deque x.own ≡ stealer_deque (get_or thieves j t)) ms k m there
          (deque ∙ pool.own k t r there) (λ j d h. pool.own j t d h) j d in_range;
      ready = each_set (λ (j : ℕ) (x : Member W). IsReady finish thieves x) ms k m there ready pool.ready;
      parts =
          each_set (λ (j : ℕ) (x : Member W). (worker_view x.own).parts + length thieves ≡ 1024) ms k m there
          (let p = pool.parts k r there in omega arith) pool.parts;
    }

    module _ (ms : List (Member W)) (at : ℕ) (r : Member W) (w : Worker (Task W) Global (View W) OneDeque) (task : Task W) (pool : IsPool finish thieves ms)
        (there : at < length ms)
        (same : SameWorker (get_or ms at r).own w) (is : worker_view w ≡ after_push finish (worker_view (get_or ms at r).own) (task ∷ [])) where
      abbrev pub put : Member W
      put = record (get_or ms at r) { own = w }

      parts_same : (worker_view w).parts ≡ (worker_view (get_or ms at r).own).parts
      parts_same = ap (λ (v : View W). v.parts) is

      put_pool : IsPool finish thieves (set ms at put)
      put_pool = let old = pool.ready at r there in pool_set ms at r put pool there same.0
          (record {
            fifo = same.1 ∙ old.fifo;
            parts = let p = old.parts in let s = parts_same in omega arith;
            one_each = old.one_each;
            each = old.each;
            ended = old.ended;
          }) parts_same

      put_given : (h : ℕ × W → ℕ) → all_given finish h (set ms at put) ≡ all_given finish h ms + h (entry_of finish task)
      put_given h =
          omega (
            arith,
            weigh-set (given finish h) ms at put r there,
            ap (λ (v : View W). weigh h v.pushed) is,
            weigh-append h (worker_view (get_or ms at r).own).pushed (entry_of finish task ∷ []),
          )

      put_obtained : (h : ℕ × W → ℕ) → all_obtained h (set ms at put) ≡ all_obtained h ms
      put_obtained h = omega (arith, weigh-set (obtained h) ms at put r there, ap (λ (v : View W). weigh h v.obtained) is)

      pub placed : worker_index w ≡ worker_index (get_or ms at r).own + 1 → record {
        pool : IsPool finish thieves (set ms at put);
        given : (h : ℕ × W → ℕ) → all_given finish h (set ms at put) ≡ all_given finish h ms + h (entry_of finish task);
        obtained : (h : ℕ × W → ℕ) → all_obtained h (set ms at put) ≡ all_obtained h ms;
        room : (taken most : ℕ) → RoomLeft taken most ms → RoomLeft (taken + 1) most (set ms at put);
      }
      placed index = record { pool = put_pool; given = put_given; obtained = put_obtained; room = left_more ms at r w there same index }

  pub entries_from-append : (n : ℕ) (bs : List (Box W)) (b : Box W) →
      entries_from finish n (bs ++ b ∷ []) ≡ entries_from finish n bs ++ (n + length bs, finish b.value) ∷ []
  entries_from-append n [] b = ap (λ (k : ℕ). (k, finish b.value) ∷ []) (omega arith)
  entries_from-append n (x ∷ xs) b =
      ap (λ l. (n, finish x.value) ∷ l)
      (entries_from-append (n + 1) xs b ∙ ap (λ (k : ℕ). entries_from finish (n + 1) xs ++ (k, finish b.value) ∷ []) (omega arith))

  pub entries_more : (h : ℕ × W → ℕ) (bs : List (Box W)) (b : Box W) (n : ℕ) → n ≡ length bs →
      weigh h (entries_from finish 0 (bs ++ b ∷ [])) ≡ weigh h (entries_from finish 0 bs) + h (n, finish b.value)
  entries_more h bs b n e =
      let k : 0 + length bs ≡ n = omega arith in
      omega (
        arith,
        ap (weigh h) (entries_from-append 0 bs b),
        weigh-append h (entries_from finish 0 bs) ((0 + length bs, finish b.value) ∷ []),
        ap (λ (k : ℕ). h (k, finish b.value)) k,
      )

module _ {W : Type 0} (finish : W → W) (thieves : List (Thief W)) where
  pub sums_moved : (ms ns : List (Member W)) → length ns ≡ length ms →
      ((k : ℕ) (m : Member W) → k < length ms → Moves finish thieves (get_or ms k m) None (get_or ns k m) None) → (h : ℕ × W → ℕ) →
      all_given finish h ns + all_obtained h ms ≡ all_given finish h ms + all_obtained h ns
  sums_moved [] [] len each h = refl
  sums_moved [] (n ∷ ns) len each h = absurd (omega arith)
  sums_moved (m ∷ ms) [] len each h = absurd (omega arith)
  sums_moved (m ∷ ms) (n ∷ ns) len each h =
      omega (arith, (each 0 m (omega arith)).balance h, sums_moved ms ns (omega arith) (λ k d i. each (suc k) d (omega arith)) h)

  pub pool_moved : (ms ns : List (Member W)) → IsPool finish thieves ms → length ns ≡ length ms →
      ((k : ℕ) (m : Member W) → k < length ms → Moves finish thieves (get_or ms k m) None (get_or ns k m) None) → IsPool finish thieves ns
  pool_moved ms ns pool len each = record {
    pair = len ∙ pool.pair;
    own = λ k t m h. let h' : k < length ms = omega arith in (each k m h').deque ∙ pool.own k t m h';
    ready = λ k m h. (each k m (omega arith)).ready;
    parts = λ k m h. let h' : k < length ms = omega arith in omega (arith, (each k m h').parts, pool.parts k m h');
  }

  -- of some workers the first ones moved
  pub first_moved : (ms ls ns : List (Member W)) → length ns ≡ length ms →
      ((k : ℕ) (m : Member W) → k < length ms → Moves finish thieves (get_or ms k m) None (get_or ns k m) None) →
      ((k : ℕ) (m : Member W) → k < length (ms ++ ls) → IsReady finish thieves (get_or (ms ++ ls) k m)) → (k : ℕ) (m : Member W) → k < length (ms ++ ls) →
      Moves finish thieves (get_or (ms ++ ls) k m) None (get_or (ns ++ ls) k m) None
  first_moved [] ls [] len each ready k m h = record { ready = ready k m h; deque = refl; parts = refl; balance = λ h. refl }
  first_moved [] ls (n ∷ ns) len each ready k m h = absurd (omega arith)
  first_moved (m ∷ ms) ls [] len each ready k d h = absurd (omega arith)
  first_moved (m ∷ ms) ls (n ∷ ns) len each ready zero d h = each 0 d (omega arith)
  first_moved (m ∷ ms) ls (n ∷ ns) len each ready (suc k) d h =
      first_moved ms ls ns (omega arith) (λ j d i. each (suc j) d (omega arith)) (λ j d i. ready (suc j) d (omega arith)) k d (omega arith)
