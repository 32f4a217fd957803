-- For crates above: after one more order, which calls are closed (`closed-more`), and that other bridges are unchanged
-- (`after_kept`).
-- One more executed order.
use Rattle.std.proofs.Common.{◌≡◌, refl, sym, ap, ◌∙◌, subst, ℕ, zero, suc, ◌<◌, ◌≤◌, ◌≢◌, Bool, true, false, Option, Some, None, List, [], ◌∷◌, ◌++◌, length}
use Rattle.std.proofs.Common.{map, get_or, set, arith, inl, inr}
use Rattle.std.specs.Prelude.{if◌then◌else◌, find, ◌==◌, option_map}
use Rattle.std.specs.List.{filter_map, cons_option}
use Rattle.std.proofs.lemmas.Bool.{eq-eqb, ne_eqb, cases_eq}
use Rattle.std.proofs.lemmas.List.{get_or-set_same, get_or-set_other}
use Rattle.switchboard.specs.declared.table.Bridge.{Bridge}
use Rattle.switchboard.specs.declared.table.Call.{Call}
use Rattle.switchboard.specs.Calls.{Done, opened_by, closed_by, is_this, opened_at, closed_at}
use Rattle.switchboard.specs.Bridges.{ends_bridge, no_bridge}
use Rattle.switchboard.specs.Rows.{Rows, never, call_in, bridge_end_in, some_if, gone_from_in}
use Rattle.switchboard.specs.Ends.{least}
use Rattle.switchboard.specs.State.{last_stamp}
use Rattle.switchboard.specs.Stands.{IsOver, IsSound, IsTable}
use Rattle.switchboard.proofs.Orders.OneMore.{or_else, after}

-- nothing behind something
pub or_else-none : {X : Type 0} (o : Option X) → or_else o None ≡ o
or_else-none None = refl
or_else-none (Some x) = refl

pub last-more : (ds : List Done) (d : Done) → last_stamp (ds ++ d ∷ []) ≡ d.order.stamp
last-more [] d = refl
last-more (e ∷ []) d = refl
last-more (e ∷ f ∷ ds) d = last-more (f ∷ ds) d

-- equal items in front of equal lists
pub cons_same : {Y : Type 0} (o p : Option Y) (ys zs : List Y) → o ≡ p → ys ≡ zs → cons_option o ys ≡ cons_option p zs
cons_same o p ys zs e f = ap (λ q. cons_option q ys) e ∙ ap (λ q. cons_option p q) f

-- ---- which calls were opened and closed

-- the stamp of the first order that is found, with one more order
stamps_more : (t : Bool) (e : Done) (u v : Option Done) (w : Option ℕ) →
    option_map (λ d. d.order.stamp) u ≡ or_else (option_map (λ d. d.order.stamp) v) w → option_map (λ d. d.order.stamp) (if t then Some e else u)
    ≡ or_else (option_map (λ d. d.order.stamp) (if t then Some e else v)) w
stamps_more true e u v w h = refl
stamps_more false e u v w h = h

-- the first order that passes a test, with one more order
found_more : (p : Done → Bool) (ds : List Done) (d : Done) → option_map (λ d. d.order.stamp) (find p (ds ++ d ∷ []))
    ≡ or_else (option_map (λ d. d.order.stamp) (find p ds)) (option_map (λ d. d.order.stamp) (find p (d ∷ [])))
found_more p [] d = refl
found_more p (e ∷ ds) d = stamps_more (p e) e _ _ _ (found_more p ds d)

pub opened-more : (c : ℕ) (ds : List Done) (d : Done) → opened_at c (ds ++ d ∷ []) ≡ or_else (opened_at c ds) (opened_at c (d ∷ []))
opened-more c ds d = found_more (λ d. is_this c (opened_by d.result)) ds d

pub closed-more : (c : ℕ) (ds : List Done) (d : Done) → closed_at c (ds ++ d ∷ []) ≡ or_else (closed_at c ds) (closed_at c (d ∷ []))
closed-more c ds d = found_more (λ d. is_this c (closed_by d.result)) ds d

-- ---- one call of the table is changed

-- what is not changed of it
pub part_kept : {X Y : Type 0} (f : X → Y) (d : X) (xs : List X) (i : ℕ) (y : X) → f y ≡ f (get_or xs i d) → (j : ℕ) → f (get_or (set xs i y) j d)
    ≡ f (get_or xs j d)
part_kept f d [] i y h j = refl
part_kept f d (x ∷ xs) zero y h zero = h
part_kept f d (x ∷ xs) zero y h (suc j) = refl
part_kept f d (x ∷ xs) (suc i) y h zero = refl
part_kept f d (x ∷ xs) (suc i) y h (suc j) = part_kept f d xs i y h j

-- a field that a changed call keeps, and so all calls
pub field_kept : {Y : Type 0} (f : Call → Y) (cs : List Call) (c : ℕ) (e : Call) →
    f e ≡ f (get_or cs c never) → (k : ℕ) → f (get_or (set cs c e) k never) ≡ f (get_or cs k never)
field_kept f cs c e h k = part_kept f never cs c e h k

-- what is changed of it
pub field_set : {Y : Type 0} (f : Call → Option Y) (cs : List Call) (c : ℕ) (e : Call) (y : Y) →
    c < length cs → f e ≡ Some y → f (get_or cs c never) ≡ None → (k : ℕ) →
    f (get_or (set cs c e) k never) ≡ or_else (f (get_or cs k never)) (if k == c then Some y else None)
field_set f cs c e y h new old k = elim (cases_eq k c) [
  | inl q ↦ subst (λ (k : ℕ). f (get_or (set cs c e) k never) ≡ or_else (f (get_or cs k never)) (if k == c then Some y else None)) (sym q)
      (ap f (get_or-set_same cs c e never h) ∙ new ∙ sym (ap (λ o. or_else o (if c == c then Some y else None)) old ∙ ap (λ t. if t then Some y else None)
      (eq-eqb c c refl)))
  | inr n ↦ ap f (get_or-set_other cs c k e never n) ∙ sym (ap (λ t. or_else (f (get_or cs k never)) (if t then Some y else None)) (ne_eqb k c n)
      ∙ or_else-none _)
]

-- ---- the bridges after one more order

-- a bridge after one more order: its end stays, or is that order's stamp where it ends the bridge
after_is : (d : Done) (x : Bridge) → after d x ≡ record x { ended = or_else x.ended (some_if (ends_bridge x.a x.b d.result) d.order.stamp) }
after_is d x = by (ends_bridge x.a x.b d.result)
  where
    by : (t : Bool) → record x { ended = or_else x.ended (option_map (λ d. d.order.stamp) (if t then Some d else None)) }
        ≡ record x { ended = or_else x.ended (some_if t d.order.stamp) }
    by true = refl
    by false = refl

-- a bridge with no end given
unended : (x : Bridge) → record x { ended = or_else x.ended None } ≡ x
unended x = ap (λ (o : Option ℕ). record x { ended = o }) (or_else-none x.ended)

-- an order that doesn't end a bridge leaves it as it is
pub after_kept : (d : Done) (x : Bridge) → ends_bridge x.a x.b d.result ≡ false → after d x ≡ x
after_kept d x e = after_is d x ∙ ap (λ (t : Bool). record x { ended = or_else x.ended (some_if t d.order.stamp) }) e ∙ unended x

-- An order leaves a bridge as it is if an earlier one ended it.
pub after_had : (d : Done) (x : Bridge) (s : ℕ) → x.ended ≡ Some s → after d x ≡ x
after_had d x s e = after_is d x ∙ ap (λ (o : Option ℕ). record x { ended = or_else o (some_if (ends_bridge x.a x.b d.result) d.order.stamp) }) e
    ∙ ap (λ (o : Option ℕ). record x { ended = o }) (sym e)

-- an order ends a bridge
pub after_ends : (d : Done) (x : Bridge) → x.ended ≡ None → ends_bridge x.a x.b d.result ≡ true → after d x ≡ record x { ended = Some d.order.stamp }
after_ends d x e t = after_is d x ∙ ap (λ (o : Option ℕ). record x { ended = or_else o (some_if (ends_bridge x.a x.b d.result) d.order.stamp) }) e
    ∙ ap (λ (t : Bool). record x { ended = some_if t d.order.stamp }) t

-- an order that ends no bridge
pub map_after_same : (d : Done) (bs : List Bridge) → ((j : ℕ) → j < length bs → after d (get_or bs j no_bridge) ≡ get_or bs j no_bridge) →
    map (after d) bs ≡ bs
map_after_same d [] h = refl
map_after_same d (x ∷ bs) h = ap (λ y. y ∷ map (after d) bs) (h 0 (omega arith)) ∙ ap (λ ys. x ∷ ys) (map_after_same d bs (λ j l. h (suc j) (omega arith)))

-- an order that ends the bridge at place k
pub map_after_at : (d : Done) (bs : List Bridge) (k : ℕ) (y : Bridge) → k < length bs → after d (get_or bs k no_bridge) ≡ y →
    ((j : ℕ) → j < length bs → j ≢ k → after d (get_or bs j no_bridge) ≡ get_or bs j no_bridge) → map (after d) bs ≡ set bs k y
map_after_at d [] k y l e h = absurd (omega arith)
map_after_at d (x ∷ bs) zero y l e h = ap (λ z. z ∷ map (after d) bs) e ∙ ap (λ ys. y ∷ ys) (map_after_same d bs (λ j l. h (suc j) (omega arith) (omega arith)))
map_after_at d (x ∷ bs) (suc k) y l e h =
    ap (λ z. z ∷ map (after d) bs) (h 0 (omega arith) (omega arith))
    ∙ ap (λ ys. x ∷ ys) (map_after_at d bs k y (omega arith) e (λ j l n. h (suc j) (omega arith) (omega arith)))

-- two filters that agree on each item
pub filter_map_same : {X Y : Type 0} (f g : X → Option Y) (xs : List X) → ((j : ℕ) (d : X) → j < length xs → f (get_or xs j d) ≡ g (get_or xs j d)) →
    filter_map f xs ≡ filter_map g xs
filter_map_same f g [] h = refl
filter_map_same f g (x ∷ xs) h = cons_same (f x) (g x) (filter_map f xs) (filter_map g xs) (h 0 x (omega arith))
    (filter_map_same f g xs (λ j d l. h (suc j) d (omega arith)))

-- ---- tables

-- what is sound stays so later
sound_later : (r : Rows) (now t : ℕ) (x : Bridge) → IsSound r now x → now ≤ t → IsSound r t x
sound_later r now t x s h = record {
  from = let f = s.from in omega arith;
  apart = s.apart;
  known = s.known;
  ended = λ u e. let k = s.ended u e in (k.0, omega (arith, k.1));
  lasts = s.lasts;
}

pub table_later : (r : Rows) (now t : ℕ) → IsTable r now → now ≤ t → IsTable r t
table_later r now t s
    h = record {
      latest = s.latest;
      sound = λ k l. sound_later r now t _ (s.sound k l) h;
      over = s.over;
      shut = s.shut;
      untold = s.untold;
      unused = s.unused;
      spans = s.spans;
    }

-- a change of calls that keeps their ends and bridges
pub record Keeps (r r' : Rows) : Type 0 where
  pub gone : (c : ℕ) → gone_from_in r' c ≡ gone_from_in r c
  pub place : (c : ℕ) → (call_in r' c).bridge ≡ (call_in r c).bridge
  pub bridges : r'.bridges ≡ r.bridges
  pub spans : r'.spans ≡ r.spans

-- a bridge keeps its end where its calls keep theirs
pub end_kept : (r r' : Rows) → Keeps r r' → (x : Bridge) → bridge_end_in r' x ≡ bridge_end_in r x
end_kept r r' k x = ap (λ o. least x.ended (least o (gone_from_in r' x.b))) (k.gone x.a) ∙ ap (λ o. least x.ended (least (gone_from_in r x.a) o)) (k.gone x.b)

pub over_kept : (r r' : Rows) (t : ℕ) (x : Bridge) → bridge_end_in r' x ≡ bridge_end_in r x → IsOver r t x → IsOver r' t x
over_kept r r' t x e o = record { at = o.at; ended = e ∙ o.ended; before = o.before }
