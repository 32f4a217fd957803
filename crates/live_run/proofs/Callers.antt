-- The callers of a live drill before and after their threads.
use Rattle.std.proofs.Common.{◌≡◌, ◌≢◌, ℕ, ◌+◌, ◌-◌, ◌<◌, ◌≤◌, Result, Ok, Err, List, [], ◌∷◌, ◌++◌, length, map, take, drop, set, get_or}
use Rattle.std.proofs.Common.{All, sym, ap, ◌∙◌, subst, ⊎_elim, get_or-set_same, get_or-set_other, arith}
use Rattle.std.specs.Prelude.{IfOk, IsTrue}
use Rattle.std.proofs.Math.ListN.{length-set}
use Rattle.std.proofs.lemmas.Bool.{cases_eq}
use Rattle.std.proofs.lemmas.List.{get_or-map, length-map}
use Rattle.farm_live.specs.declared.slot.View.{View}
use Rattle.farm_live.specs.declared.live.Caller.{Caller}
use Rattle.farm_live.specs.Live.{IsSeated, AreCallers}
use Rattle.farm_live.specs.Closing.{AreAllSeated}
use Rattle.trau_num.proofs.Lists.{written_back}
use Rattle.farm_live.proofs.NewFarm.{Line}
use Rattle.live_run.specs.declared.size.LiveDrill.{LiveDrill}
use Rattle.live_run.specs.declared.posters.Poster.{Poster}
use Rattle.live_run.specs.Posts.{drawn_posts, HasPosted, SawAll}
use Rattle.live_run.specs.Posters.{IsReady, HasEnded, Ends, HavePosted, poster_of}
use Rattle.live_run.proofs.Drawn.{none_drawn}
use Rattle.live_run.proofs.Behind.{own_zero}
use Rattle.live_run.proofs.Ended.{Ending}

some_item : {X : Type 0} (xs : List X) → 0 < length xs → X
some_item [] h = absurd (omega arith)
some_item (x ∷ xs) h = x

module _ {Q A : Type 0} (drill : LiveDrill) (inbox : ℕ) (slots : List (Line Q A)) where
  -- the callers of a new farm have posted nothing
  pub new_posted : (cs : List Caller) → 1 ≤ drill.calls → length slots ≡ drill.calls → AreCallers inbox drill.callers slots cs →
      HavePosted drill 0 inbox slots cs
  new_posted cs some count new = record {
    count = new.count;
    seated = λ i c h. (new.each i c h).seated;
    each = λ i c h.
        let one = new.each i c h in record {
          number = one.number;
          each = λ k s lt.
              let seat = one.seats.1 k (some_item slots (omega (arith, some, count))) s (omega (arith, lt, count, one.seats.0)) in
              let is = seat.view in record {
                made = ap (λ (v : View). v.made) is
                    ∙ sym (ap (drawn_posts drill.seed i (k + 1)) (own_zero drill.callers i k) ∙ none_drawn drill.seed i (k + 1));
                numbers = ap (λ (v : View). v.callers) is;
              };
        };
  }

  pub all_ready : (cs : List Caller) (ps qs : List Poster) → ps ≡ map poster_of cs → qs ≡ ps → HavePosted drill 0 inbox slots cs →
      (k : ℕ) (p : Poster) → k < length qs → IsReady drill inbox slots k (get_or qs k p)
  all_ready cs ps qs made lent have k p h =
      let is : qs ≡ map poster_of cs = lent ∙ made in
      let there : k < length cs = omega (arith, h, ap length is, length-map cs poster_of) in
      let one : get_or qs k p ≡ poster_of (get_or cs k p.caller) = ap (λ (xs : List Poster). get_or xs k p) is ∙ get_or-map poster_of cs k p.caller p there in
      subst (IsReady drill inbox slots k) (sym one)
      (record { seated = have.seated k p.caller (omega (arith, there, have.count)); posted = have.each k p.caller (omega (arith, there, have.count)) })

  pub all_posted : (ps qs : List Poster) (cs : List Caller) → qs ≡ ps → length ps ≡ drill.callers →
      ((k : ℕ) (p : Poster) → k < length ps → HasEnded drill inbox slots k (get_or ps k p)) →
      All (λ p. IsTrue p.done) qs → cs ≡ map (λ p. p.caller) qs → HavePosted drill drill.periods inbox slots cs
  all_posted ps qs cs same count ended done are =
      let caller : Poster → Caller = λ p. p.caller in
      let is : cs ≡ map caller ps = are ∙ ap (map caller) same in
      let done' : All (λ p. IsTrue p.done) ps = subst (All (λ (p : Poster). IsTrue p.done)) same done in
      let at : (i : ℕ) (c : Caller) → i < drill.callers → get_or cs i c ≡ caller (get_or ps i (poster_of c)) = λ i c h.
      ap (λ (xs : List Caller). get_or xs i c) is ∙ get_or-map caller ps i (poster_of c) c (omega (arith, h, count)) in record {
        count = ap length is ∙ length-map ps caller ∙ count;
        seated = λ i c h. subst (IsSeated inbox slots) (sym (at i c h)) (ended i (poster_of c) (omega (arith, h, count))).seated;
        each = λ i c h. subst (HasPosted drill.seed drill.calls drill.callers drill.periods i) (sym (at i c h))
            ((ended i (poster_of c) (omega (arith, h, count))).posted (done' i (poster_of c) (omega (arith, h, count))));
      }

  -- posters are ready as they are taken out of a list that was lent to the threads
  pub posters_back : {V E : Type 0} (items_of : V → List Caller) (r : Result V E) (lent new before : List Poster) (len : ℕ) → len ≡ length before →
      lent ≡ before → length new ≡ length lent → length lent ≡ drill.callers →
      ((k : ℕ) (p : Poster) → k < length lent → IsReady drill inbox slots k (get_or lent k p)) →
      ((k : ℕ) (p : Poster) → k < length lent → Ends drill inbox slots (get_or lent k p) (get_or new k p)) →
      IfOk r (λ cs. items_of cs ≡ map (λ p. p.caller) (take len (new ++ drop (length new) before))) →
      IfOk r (λ _. All (λ p. IsTrue p.done) (take len (new ++ drop (length new) before))) →
      IfOk r (λ cs. HavePosted drill drill.periods inbox slots (items_of cs))
  posters_back items_of (Err e) lent new before len long same kept count ready ended are done = tt
  posters_back items_of (Ok cs) lent new before len long same kept count ready ended are done =
      let all : length new ≡ len = kept ∙ ap length same ∙ sym long in
      let back = written_back new (drop (length new) before) len all in
      all_posted new (take len (new ++ drop (length new) before)) (items_of cs) back (kept ∙ count)
      (λ k p h. let there : k < length lent = omega (arith, h, kept) in (ended k p there).each k (ready k p there)) done are

  -- the first of them works the calls to their ends
  pub first_still : (n : ℕ) (cs : List Caller) (c d : Caller) → 1 ≤ drill.callers → c ≡ get_or cs 0 c → HavePosted drill n inbox slots cs →
      IsSeated inbox slots d →
      ((i : ℕ) → HasPosted drill.seed drill.calls drill.callers n i c → HasPosted drill.seed drill.calls drill.callers n i d) →
      HavePosted drill n inbox slots (set cs 0 d)
  first_still n cs c d some is have seated posted = record {
    count = length-set cs 0 d ∙ have.count;
    seated = λ i x h. ⊎_elim
        (λ (e : i ≡ 0). subst (λ (j : ℕ). IsSeated inbox slots (get_or (set cs 0 d) j x)) (sym e) (subst (IsSeated inbox slots) (sym (here x)) seated))
        (λ (ne : i ≢ 0). subst (IsSeated inbox slots) (sym (get_or-set_other cs 0 i d x ne)) (have.seated i x h))
        (cases_eq i 0);
    each = λ i x h. ⊎_elim
        (λ (e : i ≡ 0). subst (λ (j : ℕ). HasPosted drill.seed drill.calls drill.callers n j (get_or (set cs 0 d) j x)) (sym e)
        (subst (HasPosted drill.seed drill.calls drill.callers n 0) (sym (here x))
        (posted 0 (subst (HasPosted drill.seed drill.calls drill.callers n 0) (sym is) (have.each 0 c (omega (arith, some)))))))
        (λ (ne : i ≢ 0). subst (HasPosted drill.seed drill.calls drill.callers n i) (sym (get_or-set_other cs 0 i d x ne)) (have.each i x h))
        (cases_eq i 0);
  }
    where
      here : (x : Caller) → get_or (set cs 0 d) 0 x ≡ d
      here x = let count = have.count in get_or-set_same cs 0 d x (omega (arith, count, some))

  pub first_seated : (n : ℕ) (cs : List Caller) (c : Caller) → 1 ≤ drill.callers → c ≡ get_or cs 0 c → HavePosted drill n inbox slots cs →
      IsSeated inbox slots c
  first_seated n cs c some is have = subst (IsSeated inbox slots) (sym is) (have.seated 0 c (omega (arith, some)))

  pub all_seated : (n : ℕ) (cs : List Caller) → HavePosted drill n inbox slots cs → AreAllSeated inbox slots cs
  all_seated n cs have = λ i c h. have.seated i c (omega (arith, h, have.count))

  pub ending : (n : ℕ) (cs : List Caller) (d : Caller) (k : ℕ) → 1 ≤ drill.callers → drill.callers ≤ 64 → 1 ≤ n → length slots ≡ drill.calls →
      HavePosted drill n inbox slots cs → SawAll drill.callers (n - 1) drill.calls (get_or cs 0 d) → k < drill.calls →
      Ending drill.seed drill.calls drill.callers n cs d k
  ending n cs d k some few periods count have saw there = record {
    some_callers = some;
    few_callers = few;
    some_periods = periods;
    count = have.count;
    seats = λ i h. (have.seated i d h).one_each ∙ count;
    posted = λ i h. have.each i d h;
    saw = saw;
    there = there;
  }

pub at_first : (cs : List Caller) (d : Caller) → 0 < length cs → get_or (set cs 0 d) 0 d ≡ d
at_first cs d some = get_or-set_same cs 0 d d some

pub text_is : {V E : Type 0} (bytes : V → List ℕ) (r : Result V E) (xs ys last : List ℕ) → xs ≡ ys → IfOk r (λ t. bytes t ≡ xs ++ last) →
    IfOk r (λ t. bytes t ≡ ys ++ last)
text_is bytes (Ok t) xs ys last e told = told ∙ ap (λ (zs : List ℕ). zs ++ last) e
text_is bytes (Err f) xs ys last e told = tt
