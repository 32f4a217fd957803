-- What a caller's functions leave of what it knows of a call.
use Rattle.std.proofs.Common.{◌≡◌, ℕ, ◌+◌, ◌-◌, ◌<◌, List, [], ◌∷◌, ◌++◌, length, get_or, Result, Ok, Err, refl, sym, ap, ◌∙◌, subst, append-nil}
use Rattle.std.proofs.Common.{arith}
use Rattle.farm_live.specs.declared.post.Post.{Post}
use Rattle.farm_live.specs.declared.post.Entry.{Entry}
use Rattle.farm_live.specs.declared.slot.View.{View}
use Rattle.farm_live.specs.declared.live.Seat.{Seat}
use Rattle.farm_live.specs.declared.live.Caller.{Caller}
use Rattle.farm_live.specs.declared.live.PostFault.{PostFault}
use Rattle.farm_live.specs.declared.live.PostFault.TheVariants as fault
use Rattle.farm_live.specs.declared.turns.Turn.{Turn}
use Rattle.farm_live.specs.declared.turns.Turn.TheVariants as turn
use Rattle.farm_live.specs.declared.turns.Look.{Look}
use Rattle.farm_live.specs.declared.turns.Look.TheVariants as look
use Rattle.farm_live.specs.Book.{BookState, of_caller}
use Rattle.farm_live.specs.Turns.{Turned, HasTurned, HasLooked}
use Rattle.farm_live.specs.Live.{view_of, Turns, HasAnswered, next_post}
use Rattle.live_run.specs.Posts.{KeepsPosts, GainsPost, Saw, MovesSeat}

-- ---- by the call's index

pub by_index : (P : View → View → Type 0) (k : ℕ) (a b : Caller) → Turns P (k + 1) a b → MovesSeat P k a b
by_index P k a b t =
    let e : k + 1 - 1 ≡ k = omega arith in record {
      number = t.number;
      this = λ s. subst (λ (n : ℕ). P (view_of (get_or a.seats.items n s)) (view_of (get_or b.seats.items n s))) e (t.this s);
      others = λ j s ne. t.others j s (λ (x : j ≡ k + 1 - 1). ne (x ∙ e));
    }

pub moves_map : (P Q : View → View → Type 0) (k : ℕ) (a b : Caller) → ((v w : View) → P v w → Q v w) → MovesSeat P k a b → MovesSeat Q k a b
moves_map P Q k a b f m = record {
  number = m.number;
  this = λ s. f (view_of (get_or a.seats.items k s)) (view_of (get_or b.seats.items k s)) (m.this s);
  others = m.others;
}

pub moves_then : (P Q R : View → View → Type 0) (k : ℕ) (a b c : Caller) →
    ((u v w : View) → P u v → Q v w → R u w) → MovesSeat P k a b → MovesSeat Q k b c → MovesSeat R k a c
moves_then P Q R k a b c f m n = record {
  number = n.number ∙ m.number;
  this = λ s. f (view_of (get_or a.seats.items k s)) (view_of (get_or b.seats.items k s)) (view_of (get_or c.seats.items k s)) (m.this s) (n.this s);
  others = λ j s ne. n.others j s ne ∙ m.others j s ne;
}

stays_itself : (v : View) → KeepsPosts v v
stays_itself v = record { made = refl; callers = refl }

pub stays_then : (u v w : View) → KeepsPosts u v → KeepsPosts v w → KeepsPosts u w
stays_then u v w p q = record { made = q.made ∙ p.made; callers = q.callers ∙ p.callers }

pub moves_none : (k : ℕ) (a : Caller) → MovesSeat KeepsPosts k a a
moves_none k a = record { number = refl; this = λ s. stays_itself (view_of (get_or a.seats.items k s)); others = λ j s ne. refl }

pub stays_on : (k : ℕ) (a b c : Caller) → MovesSeat KeepsPosts k a b → MovesSeat KeepsPosts k b c → MovesSeat KeepsPosts k a c
stays_on k a b c m n = moves_then KeepsPosts KeepsPosts KeepsPosts k a b c stays_then m n

-- ---- by what was answered

turned_none : (v w : View) (back : BookState) → Turned v w back [] → KeepsPosts v w
turned_none v w back t = record { made = t.made ∙ append-nil v.made; callers = t.took.callers }

missed_none : (v w : View) → w.made ≡ v.made → w.callers ≡ v.callers → KeepsPosts v w
missed_none v w p q = record { made = p; callers = q }

pub turned_stays : {E : Type 0} (r : Result Turn E) (v w : View) → HasTurned v w r → KeepsPosts v w
turned_stays (Ok (turn.Did caller number place)) v w t = turned_none v w t.1.back t.1.turned
turned_stays (Ok turn.Idle) v w t = turned_none v w w.taken t.0
turned_stays (Ok turn.Busy) v w t = missed_none v w (ap (λ (u : View). u.made) t.counted) (ap (λ (u : View). u.callers) t.counted)
turned_stays (Err e) v w t = turned_none v w w.taken t

pub refused_stays : (x : View → Post) (f : PostFault) (v w : View) → HasAnswered (x v) v w (Err f) → KeepsPosts v w
refused_stays x (fault.Full post) v w a = turned_none v w w.taken a.0.0
refused_stays x fault.Busy v w a = missed_none v w (ap (λ (u : View). u.made) a.counted) (ap (λ (u : View). u.callers) a.counted)

pub accepted_gains : (x : View → Post) (n : ℕ) (v w : View) → HasAnswered (x v) v w (Ok n) → GainsPost (x v) v w
accepted_gains x n v w a = record { made = a.0.0.made; callers = a.0.0.took.callers }

pub looked_stays : (of number : ℕ) (l : Look) (v w : View) → HasLooked of number v w l → KeepsPosts v w
looked_stays of number (look.Found e) v w a = turned_none v w w.taken a.0
looked_stays of number look.NotYet v w a = turned_none v w w.taken a.0
looked_stays of number look.Busy v w a = missed_none v w (ap (λ (u : View). u.made) a.counted) (ap (λ (u : View). u.callers) a.counted)

pub found_saw : (of number : ℕ) (e : Entry) (v w : View) → HasLooked of number v w (look.Found e) → Saw of number w
found_saw of number e v w a = (w.taken, e, a.0.seen, a.1)

-- ---- a post after the call was worked

pub gains_then : (caller : ℕ) (up pcm : List ℕ) (u v w : View) → KeepsPosts u v → GainsPost (next_post caller up pcm v) v w →
    GainsPost (next_post caller up pcm u) u w
gains_then caller up pcm u v w s g = record {
  made = g.made ∙ ap (λ (ms : List Post). ms ++ record { caller = caller; number = length (of_caller caller ms); up = up; pcm = pcm } ∷ []) s.made;
  callers = g.callers ∙ s.callers;
}

-- the call has as few posts as before
pub few_still : (k : ℕ) (a b : Caller) (n : ℕ) → MovesSeat KeepsPosts k a b →
    ((s : Seat) → length (view_of (get_or a.seats.items k s)).made < n) → (s : Seat) → length (view_of (get_or b.seats.items (k + 1 - 1) s)).made < n
few_still k a b n m few s =
    let e : k + 1 - 1 ≡ k = omega arith in
    subst (λ (j : ℕ). length (view_of (get_or b.seats.items j s)).made < n) (sym e)
    (subst (λ (ms : List Post). length ms < n) (sym (m.this s).made) (few s))

-- ---- a turn of the loop in which a caller posts

pub post_accepted : (k n : ℕ) (up pcm : List ℕ) (a b c : Caller) → MovesSeat KeepsPosts k a b →
    Turns (λ v w. HasAnswered (next_post b.number up pcm v) v w (Ok n)) (k + 1) b c →
    MovesSeat (λ v w. GainsPost (next_post a.number up pcm v) v w) k a c
post_accepted k n up pcm a b c stays answer =
    let P : View → View → Type 0 = λ v w. HasAnswered (next_post b.number up pcm v) v w (Ok n) in
    let Q : View → View → Type 0 = λ v w. GainsPost (next_post b.number up pcm v) v w in
    let now : MovesSeat Q k b c = moves_map P Q k b c (accepted_gains (λ (v : View). next_post b.number up pcm v) n) (by_index P k b c answer) in
    let now' : MovesSeat (λ v w. GainsPost (next_post a.number up pcm v) v w) k b c =
    subst (λ (m : ℕ). MovesSeat (λ v w. GainsPost (next_post m up pcm v) v w) k b c) stays.number now in
    let R : View → View → Type 0 = λ v w. GainsPost (next_post a.number up pcm v) v w in
    moves_then KeepsPosts R R k a b c (gains_then a.number up pcm) stays now'

pub post_refused : (k : ℕ) (up pcm : List ℕ) (f : PostFault) (a b c d : Caller) → MovesSeat KeepsPosts k a b →
    Turns (λ v w. HasAnswered (next_post b.number up pcm v) v w (Err f)) (k + 1) b c → MovesSeat KeepsPosts k c d → MovesSeat KeepsPosts k a d
post_refused k up pcm f a b c d stays answer after =
    let P : View → View → Type 0 = λ v w. HasAnswered (next_post b.number up pcm v) v w (Err f) in
    stays_on k a b d stays (stays_on k b c d
    (moves_map P KeepsPosts k b c (refused_stays (λ (v : View). next_post b.number up pcm v) f) (by_index P k b c answer)) after)

-- ---- .. and of the one in which it looks for a post

pub look_on : (k of number : ℕ) (l : Look) (a b c : Caller) → MovesSeat KeepsPosts k a b → Turns (λ v w. HasLooked of number v w l) (k + 1) b c →
    MovesSeat KeepsPosts k a c
look_on k of number l a b c stays answer =
    let P : View → View → Type 0 = λ v w. HasLooked of number v w l in
    stays_on k a b c stays (moves_map P KeepsPosts k b c (looked_stays of number l) (by_index P k b c answer))

pub look_found : (k of number : ℕ) (e : Entry) (b c : Caller) → Turns (λ v w. HasLooked of number v w (look.Found e)) (k + 1) b c → (s : Seat) →
    Saw of number (view_of (get_or c.seats.items k s))
look_found k of number e b c answer s =
    let P : View → View → Type 0 = λ v w. HasLooked of number v w (look.Found e) in
    found_saw of number e (view_of (get_or b.seats.items k s)) (view_of (get_or c.seats.items k s)) ((by_index P k b c answer).this s)
