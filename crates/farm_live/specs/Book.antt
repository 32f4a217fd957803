-- The book of a call, as its callers see it, and when its history is legal.
use Rattle.std.specs.Prelude.{◌≡◌, ℕ, suc, Bool, ◌==◌, ◌&&◌, None, List, [], ◌∷◌, ◌++◌, length, map, filter}
use Rattle.trau_alaw.specs.declared.Law.TheVariants.{A}
use Rattle.trau_bits.specs.Bits.{bits_of}
use Rattle.call_leg.specs.Who.{Who}
use Rattle.call_leg.specs.Periods.{CallPeriod}
use Rattle.call_leg.specs.Settings.{new_settings, period_with}
use Rattle.call_leg.specs.Out.{out_of}
use Rattle.call_leg.specs.Down.{down_now}
use Rattle.farm_live.specs.declared.post.BookOf.{BookOf}
use Rattle.farm_live.specs.declared.post.Post.{Post}
use Rattle.farm_live.specs.declared.post.Entry.{Entry}

-- whose book it is, the history, and the posts that wait
pub record BookState : Type 0 where
  pub is_of : BookOf
  pub history : List Entry
  pub inbox : List Post

abbrev pub no_call : BookOf
no_call = record { call = 0; room = 0 }

-- a book before it has a call
abbrev pub no_book : BookState
no_book = record { is_of = no_call; history = []; inbox = [] }

-- the book of a new call
abbrev pub empty_book : BookOf → BookState
empty_book is_of = record { is_of = is_of; history = []; inbox = [] }

-- the posts of the history, and then those that wait
unfoldable pub record_of : BookState → List Post
record_of k = map (λ e. e.post) k.history ++ k.inbox

-- the posts of one caller
abbrev pub of_caller : ℕ → List Post → List Post
of_caller c ps = filter (λ p. p.caller == c) ps

-- the posts' numbers go up by one from n on
abbrev pub NumberedFrom : ℕ → List Post → Type 0
NumberedFrom n [] = Unit {0}
NumberedFrom n (p ∷ ps) = (p.number ≡ n) × NumberedFrom (suc n) ps

-- ---- a call without orders: A-law, level 256, DTX as the uplink asks, no bridge

abbrev pub who_at : ℕ → Who
who_at call = record { number = call; law = A }

-- a post has the octets of a period: 40 of the Up line and 160 of the Pcm line
abbrev pub HasPeriod : Post → Type 0
HasPeriod p = (length p.up ≡ 40) × (length p.pcm ≡ 160)

-- the period of a post
abbrev pub period_of : Post → CallPeriod
period_of p = period_with new_settings p.up p.pcm None

-- the periods after these (the newest first) and a history (the oldest first)
abbrev pub periods_after : List CallPeriod → List Entry → List CallPeriod
periods_after ts [] = ts
periods_after ts (e ∷ es) = periods_after (period_of e.post ∷ ts) es

-- each entry's post has the octets of a period, and its outgoing octets are those that the call's definition gives for
-- it after all earlier periods
abbrev pub IsWorkedFrom : Who → List CallPeriod → List Entry → Type 0
IsWorkedFrom who ts [] = Unit {0}
IsWorkedFrom who ts (e ∷ es) =
    HasPeriod e.post × (e.out ≡ out_of who (period_of e.post ∷ ts)) × (bits_of e.down ≡ down_now who (period_of e.post ∷ ts))
    × IsWorkedFrom who (period_of e.post ∷ ts) es

-- a history of a call from its first period on, by its octets; the numbers of the posts are no part of this
abbrev pub IsLegal : ℕ → List Entry → Type 0
IsLegal call es = IsWorkedFrom (who_at call) [] es

-- ---- operations on a book

-- after a post was put at the back of the inbox
abbrev pub with_post : BookState → Post → BookState
with_post k x = record { is_of = k.is_of; history = k.history; inbox = k.inbox ++ x ∷ [] }

-- the first post was processed, and its entry is added at the end of the history
pub record Worked (old : BookState) (e : Entry) (new : BookState) : Type 0 where
  pub first : (rest : List Post) × (old.inbox ≡ e.post ∷ rest) × (new.inbox ≡ rest)
  pub history : new.history ≡ old.history ++ e ∷ []
  pub is_of : new.is_of ≡ old.is_of

-- the entry is that of a caller's post with this number
abbrev pub is_of_post : ℕ → ℕ → Entry → Bool
is_of_post caller number e = (e.post.caller == caller) && (e.post.number == number)

-- the most posts that a call can have: 64 callers, with 16,777,216 each
abbrev pub most_posts : ℕ
most_posts = 1073741824
