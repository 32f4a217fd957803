-- Which bays are freed: step by step for one operation.
use Rattle.std.proofs.Common.{◌≡◌, ◌≢◌, ◌⊎◌, ◌∙◌, ℕ, ◌+◌, ◌-◌, min, List, Option, None, Some, Result, Ok, Err, IfOk, IfSome, IsSomeAnd, ap, arith, inl, inr, refl, subst, sym, slice_set}
use Rattle.std.specs.declared.io.Error.{Error}
use Rattle.trau_io.specs.declared.line.Side.{Side}
use Rattle.trau_files.specs.declared.trunk.claims.Claim.{Claim}
use Rattle.trau_files.specs.declared.trunk.fault.Fault.{Fault}
use Rattle.trau_files.specs.declared.trunk.fault.Fault.TheVariants.{System}
use Rattle.trau_files.specs.declared.trunk.bays.Access.{Access}
use Rattle.trau_files.specs.Files.{IsFileOf, OpenFiles, OpenLine, OthersSit, in_bay}
use Rattle.trau_files.specs.Folder.{Operations}
use Rattle.trau_files.specs.Opening.{LacksDescriptor, Opens, OpensOnce}
use Rattle.trau_files.specs.Bays.{FreesNext, FreesBays, HoldsOrLessens, IsShort, NoneWasOpen, OthersStayOpen, SitsHere}
use Rattle.trau_files.proofs.BayLaws.{set_place}

-- the file in one bay stays, if it is another line's
pub stay_open : {F : Type 0} (bays : List (Option (OpenLine F))) (bay : ℕ) (file : Option (OpenLine F)) (call : ℕ) (side : Side) →
    IfSome (in_bay bays bay) (λ o. (o.call ≡ call → o.side ≡ side → ⊥) → file ≡ in_bay bays bay) →
    OthersStayOpen bays (slice_set bays bay file) call side (λ _. ⊥)
stay_open {F = F} bays bay file call side stays k o there other freed = elim (set_place bays bay file None k) [
  | inl s ↦ s.1 ∙ kept (in_bay bays bay) stays (ap (in_bay bays) (sym s.0) ∙ there) ∙ ap (in_bay bays) (sym s.0) ∙ there
  | inr s ↦ s ∙ there
]
  where
    kept : (x : Option (OpenLine F)) → IfSome x (λ y. (y.call ≡ call → y.side ≡ side → ⊥) → file ≡ in_bay bays bay) → x ≡ Some o → file ≡ in_bay bays bay
    kept None stays is = cc
    kept (Some y) stays is = let same : y ≡ o = cc in
        stays (λ c s. other (ap (λ (f : OpenLine F). f.call) (sym same) ∙ c) (ap (λ (f : OpenLine F). f.side) (sym same) ∙ s))

module _ {D F : Type 0} (does : Operations D F) (call : ℕ) (side : Side) (access : Access) (at : ℕ) where
  -- a first attempt failed, since no descriptor was left
  pub is_short : (old : OpenFiles D F) (mid : D) (claims : List (Option Claim)) (first : Result F Fault) (fault : Fault) (e : Error) →
      first ≡ Err fault → fault ≡ System e → OpensOnce does old.folder mid old.claims claims call side access at first → LacksDescriptor (System e) →
      IsShort does old call side access at
  is_short old mid claims first fault e failed is once lacks = record {
    folder = mid;
    fault = fault;
    claims = claims;
    failed = subst (OpensOnce does old.folder mid old.claims claims call side access at) failed once;
    lacks = rw is lacks;
  }

  pub lessens : (old new : OpenFiles D F) (bay : ℕ) → bay ≡ old.next - 1 → OthersSit old.bays new.bays bay → new.next ≡ old.next - 1 →
      new.last ≡ old.next - 1 → IsShort does old call side access at → in_bay new.bays bay ≡ None → HoldsOrLessens does old new call side access at
  lessens old new bay is sits next last short closed =
      inr (subst (OthersSit old.bays new.bays) is sits, next, last, short, subst (λ k. in_bay new.bays k ≡ None) is closed)

  -- the files once the next bay is freed
  abbrev pub freed : OpenFiles D F → List (Option (OpenLine F)) → OpenFiles D F
  freed old bays = record { bays = bays; claims = old.claims; next = old.next; last = old.last; folder = old.folder }

  same_short : (old : OpenFiles D F) (bays : List (Option (OpenLine F))) → IsShort does (freed old bays) call side access at →
      IsShort does old call side access at
  same_short old bays short =
      record { folder = short.folder; fault = short.fault; claims = short.claims; failed = short.failed; lacks = short.lacks }

  -- the file wasn't opened
  pub frees_only : (old new : OpenFiles D F) (bays : List (Option (OpenLine F))) (fault : Fault) → OthersSit old.bays bays old.next →
      HoldsOrLessens does (freed old bays) new call side access at →
      Opens does old.folder new.folder old.claims new.claims call side access at (Err fault) → FreesNext does old new call side access at
  frees_only old new bays fault sits held opens = elim held [
    | inl h ↦ inl (
      λ k other. ap (λ (s : List (Option (OpenLine F))). in_bay s k) h.0 ∙ sits k other,
      record { result = Err fault; folder = new.folder; opens = opens; bay = tt; next = h.1; last = h.2 },
    )
    | inr h ↦ inr (λ k other before. h.0 k before ∙ sits k other, h.1, h.2, same_short old bays h.3)
  ]

  least : (a n m : ℕ) → n ≡ a → m ≡ a → min n (m + 1) ≡ a
  least a n m is_n is_m = omega (arith, is_n, is_m)

  -- the file was opened and put into the next bay
  pub frees_for_it : (old mid new : OpenFiles D F) (bays : List (Option (OpenLine F))) (file : F) → OthersSit old.bays bays old.next →
      HoldsOrLessens does (freed old bays) mid call side access at → OthersSit mid.bays new.bays mid.next → new.next ≡ min mid.last (mid.next + 1) →
      new.last ≡ mid.last → Opens does old.folder new.folder old.claims new.claims call side access at (Ok file) →
      IsFileOf old.bays call side None → FreesNext does old new call side access at
  frees_for_it old mid new bays file sits held puts next last opens closed = elim held [
    | inl h ↦ inl (
      λ k other. puts k (λ e. other (e ∙ h.1)) ∙ ap (λ (s : List (Option (OpenLine F))). in_bay s k) h.0 ∙ sits k other,
      record {
        result = Ok file;
        folder = new.folder;
        opens = opens;
        bay = λ k o other there c s.
            let before : in_bay old.bays k ≡ Some o =
            sym (puts k (λ e. other (e ∙ h.1)) ∙ ap (λ (s : List (Option (OpenLine F))). in_bay s k) h.0 ∙ sits k other) ∙ there in
            let none = closed.only k o before c s in
            cc;
        next = rw (sym h.1, sym h.2) next;
        last = last ∙ h.2;
      },
    )
    | inr h ↦ inr (
      λ k other before. puts k (λ e. before (e ∙ h.1)) ∙ h.0 k before ∙ sits k other,
      next ∙ least (old.next - 1) mid.last mid.next h.2 h.1,
      last ∙ h.2,
      same_short old bays h.3,
    )
  ]

  -- the line's file wasn't open
  pub frees_bays : (old new : OpenFiles D F) (bays : List (Option (OpenLine F))) → NoneWasOpen old.bays call side access at →
      OthersStayOpen old.bays bays call side (λ _. ⊥) → FreesNext does (freed old bays) new call side access at →
      FreesBays does old new call side access at
  frees_bays old new bays none stay frees = elim frees [
    | inl h ↦ inr (inl (record {
      none = none;
      others = λ k o there other free. h.0 k free ∙ stay k o there other (λ e. e);
      passes = record { result = h.1.result; folder = h.1.folder; opens = h.1.opens; bay = h.1.bay; next = h.1.next; last = h.1.last };
    }))
    | inr h ↦ inr (inr (record {
      none = none;
      others = λ k o there other free. h.0 k (λ e. free (inl e)) (λ e. free (inr e)) ∙ stay k o there other (λ e. e);
      next = h.1;
      last = h.2;
      short = same_short old bays h.3;
    }))
  ]

  -- the line's file moves on, or is closed
  moves : (old mid new : List (Option (OpenLine F))) (bay : ℕ) (free : ℕ → Type 0) → IsSomeAnd (in_bay mid bay) (λ o. (o.call ≡ call) × (o.side ≡ side)) →
      OthersSit mid new bay → OthersStayOpen old mid call side free → OthersStayOpen old new call side free
  moves old mid new bay free line sits stay k o there other kept =
      let here : in_bay mid k ≡ Some o = stay k o there other kept in
      sits k (λ e. is_other (in_bay mid bay) (ap (in_bay mid) (sym e) ∙ here) line) ∙ here
    where
      is_other : (x : Option (OpenLine F)) → x ≡ Some o → IsSomeAnd x (λ y. (y.call ≡ call) × (y.side ≡ side)) → ⊥
      is_other None is line = absurd line
      is_other (Some y) is line = let same : y ≡ o = cc in
          other (ap (λ (f : OpenLine F). f.call) (sym same) ∙ line.0) (ap (λ (f : OpenLine F). f.side) (sym same) ∙ line.1)

  -- so it stays in its bay
  sits_here : (mid new : List (Option (OpenLine F))) (bay p : ℕ) → IsSomeAnd (in_bay mid bay) (λ o. (o.call ≡ call) × (o.side ≡ side)) →
      OthersSit mid new bay → SitsHere mid p call side → SitsHere new p call side
  sits_here mid new bay p line sits here k o other there c s =
      let elsewhere : k ≢ bay → ⊥ = λ far. here k o other (sym (sits k far) ∙ there) c s in
      elsewhere (λ e. is_there (in_bay mid bay) refl line (λ f. other (e ∙ f)))
    where
      is_there : (x : Option (OpenLine F)) → in_bay mid bay ≡ x → IsSomeAnd x (λ y. (y.call ≡ call) × (y.side ≡ side)) → bay ≢ p → ⊥
      is_there None is line far = absurd line
      is_there (Some y) is line far = here bay y far is line.0 line.1

  sits_still : (mid new : List (Option (OpenLine F))) (bay p : ℕ) (result : Result F Fault) →
      IsSomeAnd (in_bay mid bay) (λ o. (o.call ≡ call) × (o.side ≡ side)) → OthersSit mid new bay → IfOk result (λ _. SitsHere mid p call side) →
      IfOk result (λ _. SitsHere new p call side)
  sits_still mid new bay p (Ok file) line sits here = sits_here mid new bay p line sits here
  sits_still mid new bay p (Err fault) line sits here = tt

  pub frees_still : (old mid : OpenFiles D F) (bays : List (Option (OpenLine F))) (folder : D) (bay : ℕ) →
      IsSomeAnd (in_bay mid.bays bay) (λ o. (o.call ≡ call) × (o.side ≡ side)) → OthersSit mid.bays bays bay → FreesBays does old mid call side access at →
      FreesBays does old (record (freed mid bays) { folder = folder }) call side access at
  frees_still old mid bays folder bay line sits frees = elim frees [
    | inl h ↦ inl (record {
      bay = h.bay;
      there = h.there;
      others = moves old.bays mid.bays bays bay (λ _. ⊥) line sits h.others;
      next = h.next;
      last = h.last;
    })
    | inr (inl h) ↦ inr (inl (record {
      none = h.none;
      others = moves old.bays mid.bays bays bay (λ k. k ≡ old.next) line sits h.others;
      passes = record {
        result = h.passes.result;
        folder = h.passes.folder;
        opens = h.passes.opens;
        bay = sits_still mid.bays bays bay old.next h.passes.result line sits h.passes.bay;
        next = h.passes.next;
        last = h.passes.last;
      };
    }))
    | inr (inr h) ↦ inr (inr (record {
      none = h.none;
      others = moves old.bays mid.bays bays bay (λ k. (k ≡ old.next) ⊎ (k ≡ old.next - 1)) line sits h.others;
      next = h.next;
      last = h.last;
      short = h.short;
    }))
  ]
