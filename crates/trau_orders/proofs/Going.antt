-- Lines that are gone through without keeping their orders: only their number and the last stamp are known.
use Rattle.std.proofs.Common.{◌≡◌, ℕ, ◌+◌, ◌-◌, ◌≤◌, ◌<◌, Option, List, [], ◌∷◌, ◌++◌, length, get_or, refl, sym, ◌∙◌, ap, subst, arith}
use Rattle.std.proofs.lemmas.List.{length-append, get_or_push, get_or-append-add}
use Rattle.trau_orders.specs.declared.order.Order.{Order}
use Rattle.trau_orders.specs.Grammar.{IsLine}
use Rattle.trau_orders.specs.Text.{text_lines, AreLines, IsNoEarlier, IsFirstBad}
use Rattle.trau_orders.specs.declared.expected.Expected.{Expected}
use Rattle.trau_orders.specs.Reasons.{IsFirstFault, IsFirstWrong, IsLast}
use Rattle.trau_orders.specs.Places.{IsLineFrom}
use Rattle.trau_orders.proofs.FirstBad.{good_or_bad}
use Rattle.trau_orders.proofs.Reading.{HasRead, read_more, read_all, read_bad}
use Rattle.trau_orders.proofs.Wrong.{no_line}

-- the lines gone through spell orders
pub record HasGone (text rest : List ℕ) (count least : ℕ) : Type 0 where
  pub orders : List Order
  pub read : HasRead text rest orders
  pub counted : length orders ≡ count
  pub last : IsLast orders least

-- an order that may follow isn't below the last stamp
pub not_below : (orders : List Order) (least : ℕ) (o : Order) → IsLast orders least → IsNoEarlier orders o → least ≤ o.stamp
not_below [] least o last follows = omega (arith, last.none refl)
not_below (x ∷ xs) least o last follows =
    let some : 0 < length (x ∷ xs) = omega arith in
    omega (arith, last.some o some, follows o some)

pub no_earlier : (orders : List Order) (least : ℕ) (o : Order) → IsLast orders least → least ≤ o.stamp → IsNoEarlier orders o
no_earlier orders least o last low = λ d some. omega (arith, last.some d some, low)

-- one more line
pub go_on : (text rest line after : List ℕ) (count least : ℕ) (o : Order) → HasGone text rest count least → text_lines rest ≡ line ∷ text_lines after →
    IsLine line o → least ≤ o.stamp → HasGone text after (count + 1) o.stamp
go_on text rest line after count least o gone next is low = record {
  orders = gone.orders ++ o ∷ [];
  read = read_more text rest line after gone.orders o gone.read next is (no_earlier gone.orders least o gone.last low);
  counted = length-append gone.orders (o ∷ []) ∙ ap (λ n. n + 1) gone.counted;
  last = record {
    none = λ e. absurd (omega (arith, e, length-append gone.orders (o ∷ [])));
    some = λ d some.
        let place : length (gone.orders ++ o ∷ []) - 1 ≡ length gone.orders = omega (arith, length-append gone.orders (o ∷ [])) in
        ap (λ k. (get_or (gone.orders ++ o ∷ []) k d).stamp) place ∙ ap (λ x. x.stamp) (get_or_push gone.orders o d (length gone.orders) refl);
  };
}

-- the same by the stamp of the line
pub pass : (text rest line after : List ℕ) (count least stamp : ℕ) → HasGone text rest count least → text_lines rest ≡ line ∷ text_lines after →
    IsLineFrom line least stamp → HasGone text after (count + 1) stamp
pass text rest line after count least stamp gone next from =
    subst (HasGone text after (count + 1)) from.same
    (go_on text rest line after count least from.order gone next from.is (omega (arith, from.low, from.same)))

-- the last stamp is in its range
last_limited : (lines : List (List ℕ)) (orders : List Order) (least : ℕ) → AreLines lines orders → IsLast orders least → least ≤ 4294967294
last_limited lines [] least are last = omega (arith, last.none refl)
last_limited lines (x ∷ xs) least are last =
    let some : 0 < length (x ∷ xs) = omega arith in
    omega (arith, last.some x some, (are.spelled (length (x ∷ xs) - 1) x (omega arith)).stamp)

pub limited : (text rest : List ℕ) (count least : ℕ) → HasGone text rest count least → least ≤ 4294967294
limited text rest count least gone = last_limited gone.read.lines gone.orders least gone.read.read gone.last

-- the line that is no order's is the first bad one, with its first wrong place
pub stops_at : (text rest line after : List ℕ) (count least : ℕ) (place : Option (List ℕ)) (what : Expected) → HasGone text rest count least →
    text_lines rest ≡ line ∷ text_lines after → IsFirstWrong least line place what → IsFirstFault text (count + 1) place what
unfolding read_bad
stops_at text rest line after count least place what gone next is =
    subst (λ n. IsFirstFault text (n + 1) place what) gone.counted (record {
      line = read_bad text rest line after gone.orders gone.read next (λ o spelled follows.
          no_line least line place what is o spelled (not_below gone.orders least o gone.last follows));
      least = least;
      last = gone.last;
      wrong = subst (λ l. IsFirstWrong least l place what) (sym here) is;
    })
  where
    before : List (List ℕ)
    before = gone.read.lines

    here : get_or (text_lines text) (length gone.orders + 1 - 1) [] ≡ line
    here =
        let k : length gone.orders + 1 - 1 ≡ length before + 0 = omega (arith, gone.read.read.one_each) in
        ap (λ n. get_or (text_lines text) n []) k ∙ ap (λ ls. get_or ls (length before + 0) []) (gone.read.whole ∙ ap (λ ls. before ++ ls) next)
        ∙ get_or-append-add before (line ∷ text_lines after) 0 []

-- where nothing is left, no line is bad
pub none_bad : (text rest : List ℕ) (count least : ℕ) → HasGone text rest count least → rest ≡ [] → (n : ℕ) → IsFirstBad (text_lines text) n → ⊥
none_bad text rest count least gone none n bad = good_or_bad (text_lines text) gone.orders n (read_all text rest gone.orders gone.read none) bad
