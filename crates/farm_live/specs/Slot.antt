-- The rule of one slot: there is one book, in the slot or in one caller's hand. It begins with all that any caller saw
-- of it, and each caller's posts in it are those that the caller made, numbered in order.
use Rattle.std.specs.Prelude.{◌≡◌, ◌⊎◌, ℕ, zero, suc, ◌+◌, ◌*◌, ◌<◌, ◌≤◌, Bool, true, false, ◌==◌, List, [], ◌∷◌, ◌++◌, length, drop, take}
use mathlib.Core.Option.{some}
use lib.ListN.{get_elem?}
use Rattle.trau_num.specs.Weights.{weigh}
use Rattle.farm_live.specs.declared.post.Post.{Post}
use Rattle.farm_live.specs.declared.slot.View.{View}
use Rattle.farm_live.specs.declared.slot.Token.{Token}
use Rattle.farm_live.specs.declared.slot.Token.TheVariants.{Here, Out}
use Rattle.farm_live.specs.declared.slot.Taken.{Taken}
use Rattle.farm_live.specs.declared.slot.Taken.TheVariants.{Got, Busy, Again}
use Rattle.farm_live.specs.Book.{BookState, no_book, no_call, record_of, of_caller, NumberedFrom, most_posts}

abbrev pub StartsWith : {X : Type 0} → List X → List X → Type 0
StartsWith {X} longer begin = (rest : List X) × (longer ≡ begin ++ rest)

abbrev pub bit : Bool → ℕ
bit true = 1
bit false = 0

-- how often a number is in a list
abbrev pub is_at : ℕ → ℕ → ℕ
is_at c d = bit (d == c)

abbrev pub times : ℕ → List ℕ → ℕ
times c ds = weigh (is_at c) ds

-- n numbers from k on
abbrev pub ascending : ℕ → ℕ → List ℕ
ascending k zero = []
ascending k (suc n) = k ∷ ascending (suc k) n

-- the numbers of all callers that a slot can have
unfoldable pub all_callers : List ℕ
all_callers = ascending 0 64

-- ---- the contents of the slot

abbrev pub books : Token → ℕ
books (Here b) = 1
books Out = 0

abbrev pub IsBook : BookState → Token → Type 0
IsBook now (Here b) = b ≡ now
IsBook now Out = Unit {0}

abbrev pub AllBooks : BookState → List Token → Type 0
AllBooks now [] = Unit {0}
AllBooks now (x ∷ xs) = IsBook now x × AllBooks now xs

-- ---- what the callers know

-- the book begins with what was seen of it: the history with the history, the record with the record
pub record BeginsWith (now : BookState) (seen : BookState) : Type 0 where
  pub history : StartsWith now.history seen.history
  pub posts : StartsWith (record_of now) (record_of seen)

abbrev pub AllSeen : BookState → List BookState → Type 0
AllSeen now [] = Unit {0}
AllSeen now (k ∷ ks) = BeginsWith now k × AllSeen now ks

abbrev pub number_of_callers : View → ℕ
number_of_callers v = weigh (λ _. 1) v.callers

-- the posts of a caller that are in the book, if the view has its number; none, if not
abbrev pub own_posts : ℕ → List Post → List Post
own_posts zero posts = []
own_posts (suc n) posts = posts

pub record FitsBook (now : BookState) (v : View) : Type 0 where
  pub held : v.holds ≡ true → v.taken ≡ now
  pub seen : AllSeen now v.seen
  pub made : (c : ℕ) → of_caller c v.made ≡ own_posts (times c v.callers) (of_caller c (record_of now))
  pub is_of : (c : ℕ) → 0 < times c v.callers → v.is_of ≡ now.is_of
  pub few : length v.made ≤ 16777216 * number_of_callers v
  pub rest : v.callers ≡ [] → v.holds ≡ false

-- each caller's posts are numbered in order, and all are of callers that a slot can have
pub record IsRecord (posts : List Post) : Type 0 where
  pub numbered : (c : ℕ) → NumberedFrom 0 (of_caller c posts)
  pub known : (c : ℕ) → times c all_callers ≡ 0 → of_caller c posts ≡ []

abbrev pub IsSlot : List Token → List View → Type 0
IsSlot items views =
    (now : BookState)
    × (weigh (λ v. bit v.holds) views + weigh books items ≡ 1)
    × AllBooks now items
    × IsRecord (record_of now)
    × ((h : ℕ → ℕ) → weigh (λ v. weigh h v.callers) views ≡ weigh h all_callers)
    × ((port : ℕ) (v : View) → get_elem? views port ≡ some v → FitsBook now v)
    × (length (record_of now) ≡ weigh (λ v. length v.made) views)

-- ---- the steps

-- the first view has all callers' numbers, and holds a book that doesn't exist yet
abbrev pub founder : View
founder = record { callers = all_callers; is_of = no_call; holds = true; taken = no_book; seen = []; made = []; takings = 0; misses = 0 }

-- the first number goes to a new view, which has seen as much; the others stay
abbrev pub rest_view : View → View
rest_view v = record v { callers = drop 1 v.callers }

abbrev pub first_view : View → View
first_view v = record { callers = take 1 v.callers; is_of = v.is_of; holds = false; taken = no_book; seen = v.seen; made = []; takings = 0; misses = 0 }

-- one view takes in another, which is then spent
abbrev pub both_of : View → View → View
both_of v w = record {
  callers = v.callers ++ w.callers;
  is_of = v.is_of;
  holds = v.holds;
  taken = v.taken;
  seen = v.seen ++ w.seen;
  made = v.made ++ w.made;
  takings = v.takings + w.takings;
  misses = v.misses + w.misses;
}

abbrev pub spent : View
spent = record { callers = []; is_of = no_call; holds = false; taken = no_book; seen = []; made = []; takings = 0; misses = 0 }

-- after a miss
abbrev pub missed : View → View
missed v = record v { misses = v.misses + 1 }

-- Another caller had the book in hand, so this view doesn't have the numbers of all 64. A miss was counted, and nothing
-- else changed.
pub record HasMissed (v w : View) : Type 0 where
  pub counted : w ≡ missed v
  pub others : number_of_callers v < 64

-- after the book was taken
abbrev pub took : View → BookState → View
took v b = record v { holds = true; taken = b; seen = b ∷ []; takings = v.takings + 1 }

-- what the rule says of a book that was taken
pub record BookTells (v : View) (b : BookState) : Type 0 where
  pub seen : AllSeen b v.seen
  pub made : (c : ℕ) → of_caller c v.made ≡ own_posts (times c v.callers) (of_caller c (record_of b))
  pub is_of : (c : ℕ) → 0 < times c v.callers → v.is_of ≡ b.is_of
  pub posts : IsRecord (record_of b)
  pub few : length (record_of b) ≤ most_posts
  pub mine : length v.made ≤ 16777216 * number_of_callers v

abbrev pub Took : View → Token → View → Type 0
Took v (Here b) w = (w ≡ took v b) × BookTells v b
Took v Out w = HasMissed v w

-- the posts in the book that weren't there when it was taken
abbrev pub added : View → BookState → List Post
added v b = drop (length (record_of v.taken)) (record_of b)

-- after the book was given back
abbrev pub gave : View → BookState → View
gave v b = record v { is_of = b.is_of; holds = false; seen = b ∷ []; made = v.made ++ added v b }

abbrev pub Gave : View → Token → View → Type 0
Gave v (Here b) w = w ≡ gave v b
Gave v Out w = w ≡ v

-- it may be given back like this: it begins with the book that was taken, and its new posts continue the numbers and
-- are of this view's callers
pub record May (v : View) (b : BookState) : Type 0 where
  pub begins : BeginsWith b v.taken
  pub own : (c : ℕ) → times c v.callers ≡ 0 → of_caller c (added v b) ≡ []
  pub numbered : (c : ℕ) → NumberedFrom (length (of_caller c v.made)) (of_caller c (added v b))
  pub few : length (v.made ++ added v b) ≤ 16777216 * number_of_callers v
  -- its call is the same, or this view has all callers
  pub is_of : (b.is_of ≡ v.taken.is_of) × (v.is_of ≡ v.taken.is_of) ⊎ ((h : ℕ → ℕ) → weigh h v.callers ≡ weigh h all_callers)

abbrev pub MatchTaken : Taken → (BookState → Type 0) → Type 0 → Type 0 → Type 0
MatchTaken (Got b) book busy again = book b
MatchTaken Busy book busy again = busy
MatchTaken Again book busy again = again
