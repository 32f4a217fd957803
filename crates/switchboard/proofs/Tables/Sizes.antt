-- The rows of a table, and where an order joins two calls: they keep their places.
use Rattle.std.proofs.Common.{◌≡◌, ℕ, zero, suc, ◌+◌, ◌<◌, Bool, Option, Some, None, is_some, IfSome, List, [], ◌∷◌, ◌++◌, length, get_or, set, sym, ap, subst, arith}
use Rattle.std.proofs.lemmas.List.{length-set, length-append}
use Rattle.switchboard.specs.declared.table.Call.{Call}
use Rattle.switchboard.specs.declared.table.Bridge.{Bridge}
use Rattle.switchboard.specs.declared.act.Span.{Span}
use Rattle.switchboard.specs.Rows.{Rows, IsSized, never, bridged_in, gone_from_in}

abbrev pub rows : List Call → List Bridge → List Span → ℕ → Rows
rows cs bs ss most = record { calls = cs; bridges = bs; spans = ss; most = most }

-- the calls whose end was reported
abbrev pub gone_of : Rows → ℕ → Bool
gone_of r c = is_some (gone_from_in r c)

-- ---- two calls are joined

abbrev HasPlace : ℕ → Call → Type 0
HasPlace n call = IfSome call.bridge (λ k. k < n)

place_set : (calls : List Call) (i n : ℕ) (new : Call) → HasPlace n new → ((c : ℕ) → HasPlace n (get_or calls c never)) → (c : ℕ) →
    HasPlace n (get_or (set calls i new) c never)
place_set [] i n new own old c = old c
place_set (x ∷ xs) zero n new own old zero = own
place_set (x ∷ xs) zero n new own old (suc c) = old (suc c)
place_set (x ∷ xs) (suc i) n new own old zero = old zero
place_set (x ∷ xs) (suc i) n new own old (suc c) = place_set xs i n new own (λ d. old (suc d)) c

-- a place stays within a longer list
place_more : (n : ℕ) (o : Option ℕ) → IfSome o (λ k. k < n) → IfSome o (λ k. k < n + 1)
place_more n None h = h
place_more n (Some k) h = omega arith

abbrev Named : Bridge → Type 0
Named bridge = (bridge.a < 4097) × (bridge.b < 4097)

-- each bridge of a list, read with a default `d` past its end
abbrev AllNamed : Bridge → List Bridge → Type 0
AllNamed d bridges = (k : ℕ) → k < length bridges → Named (get_or bridges k d)

-- each bridge names calls of the table, and so does a new one
named_push : (d : Bridge) (bridges : List Bridge) (new : Bridge) → Named new → AllNamed d bridges → AllNamed d (bridges ++ new ∷ [])
named_push d [] new own old zero within = own
named_push d [] new own old (suc k) within = absurd (omega arith)
named_push d (x ∷ xs) new own old zero within = old zero (omega arith)
named_push d (x ∷ xs) new own old (suc k) within = named_push d xs new own (λ j h. old (suc j) (omega arith)) k (omega arith)

-- the places stay within their lists where an order joins two calls
pub joined_sized : (calls : List Call) (bridges now : List Bridge) (a b n : ℕ) (first second : Call) (new : Bridge) →
    IsSized calls bridges → n ≡ length bridges → first.bridge ≡ Some n → second.bridge ≡ Some n → Named new → now ≡ bridges ++ new ∷ [] →
    IsSized (set (set calls a first) b second) now
joined_sized calls bridges now a b n first second new sized place of_first of_second own is =
    let longer : length now ≡ n + 1 = omega (arith, ap length is, length-append bridges (new ∷ [])) in
    let at_end : (o : Option ℕ) → o ≡ Some n → IfSome o (λ k. k < length now) = λ o e. subst (λ (p : Option ℕ). IfSome p (λ k. k < length now)) (sym e)
    (omega arith) in
    let old : (c : ℕ) → HasPlace (length now) (get_or calls c never) =
    λ c. subst (λ (m : ℕ). HasPlace m (get_or calls c never)) (sym longer)
    (place_more n (get_or calls c never).bridge (subst (λ (m : ℕ). HasPlace m (get_or calls c never)) (sym place) (sized.places c))) in record {
      all = omega (arith, sized.all, length-set {A = Call});
      places = place_set (set calls a first) b (length now) second (at_end second.bridge of_second)
          (place_set calls a (length now) first (at_end first.bridge of_first) old);
      named = subst (AllNamed _) (sym is) (named_push _ bridges new own sized.named);
    }

-- the table is then that of the definition
pub joined_rows : (calls : List Call) (bridges now : List Bridge) (spans : List Span) (most t a b n : ℕ) (x y : Call) → n ≡ length bridges →
    x ≡ get_or calls a never → y ≡ get_or (set calls a (record x { bridge = Some n })) b never →
    now ≡ bridges ++ record { a = a; b = b; from = t; ended = None } ∷ [] →
    rows (set (set calls a (record x { bridge = Some n })) b (record y { bridge = Some n })) now spans most
    ≡ bridged_in (rows calls bridges spans most) t a b
joined_rows calls bridges now spans most t a b n x y place first second is = cc
