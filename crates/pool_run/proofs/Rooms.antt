-- A pool's room is made, worker by worker.
use Rattle.std.proofs.Common.{◌≡◌, ◌≢◌, ℕ, zero, suc, ◌+◌, ◌<◌, ◌≤◌, List, [], ◌∷◌, ◌++◌, length, map, All, set, get_or, sym, refl, ap, ◌∙◌, subst, arith}
use Rattle.std.specs.Global.{Vec}
use Rattle.std.proofs.Math.ListN.{length-set}
use Rattle.trau_num.proofs.Lists.{each_set, each_snoc, same_default}
use Rattle.crossbeam_deque.specs.Handles.{view, worker_deque, stealer_deque, worker_flavor, stealer_flavor, worker_view}
use Rattle.pool_run.specs.declared.deque.View.{View}
use Rattle.pool_run.specs.declared.deque.Task.{Task}
use Rattle.pool_run.specs.declared.member.Member.{Member}
use Rattle.trau_num.specs.Weights.{weigh}
use Rattle.pool_run.specs.Deque.{entry_of}
use Rattle.pool_run.specs.Member.{Thief, Knower, IsPassFor, given, obtained}
use Rattle.pool_run.specs.Room.{IsRoom, IsNew, IsUnused, IsRow, RoomLeft}
use Rattle.pool_run.specs.Joins.{HasRow, IsShared, below, rows_at}
use Rattle.pool_run.specs.Pool.{passes_of}
use Rattle.trau_num.proofs.Weights.{weigh-append}
use Rattle.pool_run.proofs.Weights.{weigh-set, weigh_ones, weigh_zeros}
use Rattle.pool_run.proofs.Rows.{has_pass, passes_at, passes_set_same, passes_set_other}
use Rattle.pool_run.proofs.Lists.{any_of, below_lt}
use Rattle.pool_run.proofs.Left.{OwnLeft}

module _ {W : Type 0} where
  -- each handle is that of the worker at its place
  abbrev pub AreThieves : List (Member W) → List (Thief W) → Type 0
  AreThieves ms ts = (k : ℕ) (t : Thief W) → k < length ts → (m : Member W) →
      (stealer_deque (get_or ts k t) ≡ worker_deque (get_or ms k m).own) × (stealer_flavor (get_or ts k t) ≡ worker_flavor (get_or ms k m).own)

  pub thief_more : (ms : List (Member W)) (ts : List (Thief W)) (m : Member W) (t : Thief W) → AreThieves ms ts → length ts < length ms →
      m ≡ get_or ms (length ts) m → (stealer_deque t ≡ worker_deque m.own) × (stealer_flavor t ≡ worker_flavor m.own) → AreThieves ms (ts ++ t ∷ [])
  thief_more ms ts m t old there is new =
      each_snoc (λ (k : ℕ) (u : Thief W). (d : Member W) → (stealer_deque u ≡ worker_deque (get_or ms k d).own)
      × (stealer_flavor u ≡ worker_flavor (get_or ms k d).own)) ts t old
      (λ d. subst (λ (x : Member W). (stealer_deque t ≡ worker_deque x.own) × (stealer_flavor t ≡ worker_flavor x.own))
      (is ∙ same_default ms (length ts) m d there) new)

  pub no_passes : (most : ℕ) (ms : List (Member W)) → All (IsNew most) ms → (i : ℕ) → passes_of ms i ≡ []
  no_passes most [] new i = refl
  no_passes most (m ∷ ms) new zero = (new 0 m (omega arith)).passes
  no_passes most (m ∷ ms) new (suc i) = no_passes most ms (λ k d h. new (suc k) d (omega arith)) i

module _ {W : Type 0} (finish : W → W) where
  module _ (thieves : List (Thief W)) (ms : List (Member W)) (me : ℕ) (r : Member W) (row : Vec (Knower W))
      (unused : IsUnused finish thieves ms (length thieves)) (there : me < length ms)
      (none : passes_of ms me ≡ []) (is_row : IsRow thieves row.items) (len : length row.items ≡ length thieves) where
    abbrev pub seated : Member W
    seated = record (get_or ms me r) { passes = row }

    empty : (get_or ms me r).passes.items ≡ []
    empty = sym (passes_at ms me r there) ∙ none

    rows : (i : ℕ) → rows_at i (set ms me seated) ≡ rows_at i ms + below i (length thieves)
    rows i = omega (arith, weigh-set (has_pass i) ms me seated r there, ap (λ (l : List (Knower W)). below i (length l)) empty, ap (below i) len)

    give_shared : IsShared finish thieves (set ms me seated) 0 0
    give_shared = let shared = unused.shared in let s = shared.rows me r there in record {
      pair = length-set ms me seated ∙ shared.pair;
      own =
          λ i t d in_range. each_set (λ (i : ℕ) (x : Member W). worker_deque x.own ≡ stealer_deque (get_or thieves i t)) ms me seated there
          (shared.own me t r there) (λ i d h. shared.own i t d h) i d in_range;
      rows =
          each_set (λ (i : ℕ) (x : Member W). HasRow finish thieves x) ms me seated there
          (record { fifo = s.fifo; parts = s.parts; few = omega (arith, len); each = is_row.each; ended = s.ended }) shared.rows;
      parts = each_set (λ (i : ℕ) (x : Member W). (worker_view x.own).parts + rows_at i (set ms me seated) + 0 ≡ 1024 + 0) ms me seated there
          (omega (arith, shared.parts me r there, rows me)) (λ i d h. omega (arith, shared.parts i d h, rows i));
    }

    give_unused : IsUnused finish thieves (set ms me seated) 0
    give_unused = record {
      shared = give_shared;
      fifo = unused.fifo;
      given = λ h. omega (arith, unused.given h, weigh-set (given finish h) ms me seated r there);
      obtained =
          λ h. omega (
            arith,
            unused.obtained h,
            weigh-set (obtained h) ms me seated r there,
            is_row.obtained h,
            ap (weigh (λ (q : Knower W). weigh h (view q).obtained)) empty,
          );
    }

    give_mine : length (passes_of (set ms me seated) me) ≡ length thieves
    give_mine = ap length (passes_set_same ms me seated there) ∙ len

    give_left : (most : ℕ) → RoomLeft 0 most ms → RoomLeft 0 most (set ms me seated)
    give_left most left = each_set (OwnLeft 0 most) ms me seated there (left me r there) left

    give_rows : (i : ℕ) → i ≢ me → passes_of (set ms me seated) i ≡ passes_of ms i
    give_rows i ne = passes_set_other ms i me seated ne

    pub given_row : record {
      unused : IsUnused finish thieves (set ms me seated) 0;
      mine : length (passes_of (set ms me seated) me) ≡ length thieves;
      rows : (i : ℕ) → i ≢ me → passes_of (set ms me seated) i ≡ passes_of ms i;
      room : (most : ℕ) → RoomLeft 0 most ms → RoomLeft 0 most (set ms me seated);
    }
    given_row = record { unused = give_unused; mine = give_mine; rows = give_rows; room = give_left }

  module _ (ms : List (Member W)) (most : ℕ) (new : All (IsNew most) ms) where
    no_rows : (k : ℕ) → rows_at k ms ≡ 0
    no_rows k = weigh_zeros (has_pass k) ms (λ i d h. ap (λ (l : List (Knower W)). below k (length l)) (new i d h).passes)

    pub new_left : RoomLeft 0 most ms
    new_left = λ k m h. let left = (new k m h).left in (omega (arith, left.0), left.1)

    new_row : (thieves : List (Thief W)) (m : Member W) → IsNew most m → HasRow finish thieves m
    new_row thieves m is = let e : length m.passes.items ≡ 0 = ap length is.passes in let d : length m.done.items ≡ 0 = ap length is.done in record {
      fifo = is.fifo;
      parts = omega (arith, ap (λ (u : View W). u.parts) is.view);
      few = omega arith;
      each = λ k u p h. absurd (omega arith);
      ended = λ k u h. absurd (omega arith);
    }

    pub new_unused : (thieves : List (Thief W)) → length thieves ≡ length ms → AreThieves ms thieves → IsUnused finish thieves ms 0
    new_unused thieves len are = record {
      shared = record {
        pair = sym len;
        own = λ k t m h. sym (are k t (omega (arith, len)) m).0;
        rows = λ k m h. new_row thieves (get_or ms k m) (new k m h);
        parts = λ k m h. omega (arith, no_rows k, ap (λ (u : View W). u.parts) (new k m h).view);
      };
      fifo = λ k t h. let h' : k < length ms = omega arith in let m = any_of ms k h' in (are k t h m).1 ∙ (new k m h').fifo;
      given =
          λ h. weigh_zeros (given finish h) ms
          (λ i d lt. let n = new i d lt in omega (
            arith,
            ap (λ (u : View W). weigh h u.pushed) n.view,
            ap (λ (ts : List (Task W)). weigh h (map (entry_of finish) ts)) n.done,
          ));
      obtained =
          λ h. weigh_zeros (obtained h) ms
          (λ i d lt. let n = new i d lt in omega (
            arith,
            ap (λ (u : View W). weigh h u.obtained) n.view,
            ap (weigh (λ (q : Knower W). weigh h (view q).obtained)) n.passes,
          ));
    }

  pub no_row : (thieves : List (Thief W)) → IsRow thieves []
  no_row thieves = record { each = λ k t p h. absurd (omega arith); obtained = λ h. refl }

  pub row_more : (thieves : List (Thief W)) (row : List (Knower W)) (p : Knower W) → IsRow thieves row →
      ((t : Thief W) → IsPassFor (get_or thieves (length row) t) p) → (view p).obtained ≡ [] → IsRow thieves (row ++ p ∷ [])
  row_more thieves row p old is_for none = record {
    each = λ k t q h. each_snoc (λ (k : ℕ) (x : Knower W). IsPassFor (get_or thieves k t) x) row p (λ k q h. old.each k t q h) (is_for t) k q h;
    obtained = λ h. omega (arith, old.obtained h, weigh-append (λ (q : Knower W). weigh h (view q).obtained) row (p ∷ []), ap (weigh h) none);
  }

  pub unused_room : (thieves : List (Thief W)) (ms : List (Member W)) → IsUnused finish thieves ms 0 →
      ((i : ℕ) → i < length ms → length (passes_of ms i) ≡ length thieves) → 0 < length ms → (most : ℕ) → RoomLeft 0 most ms → IsRoom finish most thieves ms
  unused_room thieves ms unused full some most left = let shared = unused.shared in
      let full' : (i : ℕ) (d : Member W) → i < length ms → length (get_or ms i d).passes.items ≡ length thieves =
      λ i d h. sym (ap length (passes_at ms i d h)) ∙ full i h in
      record {
        pool = record {
          pair = shared.pair;
          own = shared.own;
          ready =
              λ k m h.
              let s = shared.rows k m h in
              record {
                fifo = s.fifo;
                parts = s.parts;
                one_each = full' k m h;
                each = λ i t p i_in. s.each i t p (omega (arith, full' k m h));
                ended = s.ended;
              };
          parts =
              λ k m h. omega (
                arith,
                shared.parts k m h,
                shared.pair,
                weigh_ones (λ (x : Member W). below k (length x.passes.items)) ms
                    (λ i d i_in. below_lt k (length (get_or ms i d).passes.items) (omega (arith, full' i d i_in, shared.pair))),
              );
        };
        some = some;
        given = unused.given;
        obtained = unused.obtained;
        left = left;
      }

  pub room_less : (thieves : List (Thief W)) (ms : List (Member W)) (fewer most : ℕ) → fewer ≤ most → IsRoom finish most thieves ms →
      IsRoom finish fewer thieves ms
  room_less thieves ms fewer most le room = record {
    pool = room.pool;
    some = room.some;
    given = room.given;
    obtained = room.obtained;
    left = λ k m h. let l = room.left k m h in (l.0, omega (arith, l.1));
  }
