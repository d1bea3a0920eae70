-- One device of the shelf is passed.
use Rattle.std.proofs.Common.{◌≡◌, ◌∙◌, ◌≤◌, ◌+◌, ℕ, true, false, List, [], ◌∷◌, ◌++◌, None, refl, sym, ap, subst, inl, inr, append_assoc}
use Rattle.std.specs.Prelude.{IfSome, IsSome}
use Rattle.std.specs.Str.{bytes_eq}
use Rattle.std.specs.Cmp.Lexicographic.{slice_cmp}
use Rattle.std.specs.Ordering.{nat_cmp, is_eq}
use Rattle.std.specs.declared.cmp.Ordering.TheVariants.{Less}
use Rattle.std.proofs.lemmas.Bool.{cond-false}
use Rattle.std.proofs.lemmas.List.{map-append}
use Rattle.std.proofs.lemmas.Map.Text.{is_eq-slice_cmp}
use Rattle.vx_base.specs.Counts.{Rose}
use Rattle.vx_base.specs.Named.{Word, SameUnder}
use Rattle.vx_base.proofs.NamedLemmas.{bytes_eq_self}
use Rattle.vx_piece.specs.Seen.{Seen, Keeps, IsRead}
use Rattle.vx_header.specs.Named.{Label}
use Rattle.vx_shelf.specs.Shelf.{SameCounts}
use Rattle.vx_import.specs.Looks.{Looked}
use Rattle.vx_stages.specs.Finding.{IsUpTo}
use Rattle.vx_house.specs.Holders.{Holder, held_as, AreHeld}
use Rattle.vx_house.specs.Scene.{Shelved, seen_in}
use Rattle.vx_house.proofs.Scenes.{scene_of, IsHanded}
use Rattle.vx_stage_import.specs.Finds.{holder_of, holders_of, beside, IsNaming, HasSlot, AllBefore}
use Rattle.vx_stage_import.specs.Gathering.{HeadersRead, IsSlotUsed, WhyBack, IsFound, LookBy, PassedBy, PassGoes}
use Rattle.vx_stage_import.specs.declared.gathering.Passed.{Passed}
use Rattle.vx_stage_import.specs.declared.gathering.Passed.TheVariants.{Done, Cut, OutOfMemory}
use Rattle.vx_stage_import.proofs.Headers.{same_reads, header_kept, header_back}
use Rattle.vx_stage_import.proofs.Names.{less_apart}
use Rattle.vx_stage_import.proofs.PutAmong.{all_on_put, any_on_put, any_at_put}
use Rattle.vx_house.proofs.Refusals.{told_free, not_told, only_asked, held_asked}
use Rattle.vx_house.proofs.ReadsInHand as took
use Rattle.vx_house.specs.Reading.{OnlyRead, IsReturned}

pub holders_put : (xs ys : List Looked) → holders_of (xs ++ ys) ≡ holders_of xs ++ holders_of ys
holders_put xs ys = map-append holder_of xs ys

-- a name that stands before another is not it, and not behind it
less_up_to : (name other : Word) → slice_cmp nat_cmp name other ≡ Less → IsUpTo name other
less_up_to name other less = λ greater. cc

pub self_up_to : (name other : Word) → name ≡ other → IsUpTo name other
self_up_to name other same = λ greater.
    let one : is_eq (slice_cmp nat_cmp name other) ≡ bytes_eq name other = is_eq-slice_cmp name other in
    let two : bytes_eq name other ≡ true = ap (bytes_eq name) (sym same) ∙ bytes_eq_self name in
    let three : is_eq (slice_cmp nat_cmp name other) ≡ false = ap is_eq greater in cc

pub none_before : (name : Word) (fs : List Looked) → AllBefore fs name → held_as (holders_of fs) name ≡ None
none_before name [] before = refl
none_before name (f ∷ fs) before = cond-false _ _ _ (less_apart f.device name before.0) ∙ none_before name fs before.1

has_slot : (slot : ℕ) (name : Word) (fs : List Looked) → AllBefore fs name → IsSlotUsed slot fs → HasSlot slot name fs
has_slot slot name [] before used = absurd used
has_slot slot name (f ∷ fs) before (inl is) = inl (is, less_up_to f.device name before.0)
has_slot slot name (f ∷ fs) before (inr used) = inr (has_slot slot name fs before.1 used)

module _ (old new : Shelved) (same : SameUnder old.held new.held) (stays : new.free ≡ old.free) (counts : SameCounts old.counted new.counted) (later : old.faults ≤ new.faults) where
  module _ (group name : Word) (others : List Holder) (fs : List Looked) (are : AreHeld old.held (others ++ holders_of fs)) where
    missed : (result : Passed) → PassedBy result group name (beside old others fs) (beside new others fs) fs → PassGoes result group name (beside old others fs) (beside new others fs) fs
    missed result ends = record { held = held_asked old new same stays counts later (others ++ holders_of fs) are; reads = only_asked old new same stays counts later (others ++ holders_of fs); headers = λ told other. inl (same_reads (beside old others fs) (beside new others fs) other (ap (λ f. seen_in (held_as (others ++ holders_of fs) other) f other) stays)); ends = ends }

    pub pass_absent : IfSome old.free (λ d. d name ≡ None) → PassGoes Done group name (beside old others fs) (beside new others fs) fs
    pass_absent gone = missed Done (inr (λ seen label none is naming. absurd (not_told (held_as (others ++ holders_of fs) name) old.free name seen gone none is)))

    pub pass_failed : Rose old.faults new.faults → PassGoes Done group name (beside old others fs) (beside new others fs) fs
    pass_failed rose = missed Done (inl rose)

    pub pass_starved : PassGoes OutOfMemory group name (beside old others fs) (beside new others fs) fs
    pass_starved = missed OutOfMemory tt

module _ (group name : Word) (old mid new : Shelved) (fs fs' : List Looked) (seen after : Seen) (handed : IsHanded name seen old mid) (kept : Keeps seen after) (same : IsRead seen after) where
  module _ (most : after.reads ≤ seen.reads + 1) (others : List Holder) (are : AreHeld old.held (others ++ holders_of fs)) (before : AllBefore fs name) where
    abbrev hs : List Holder
    hs = others ++ holders_of fs

    -- it was taken and given back
    back_by : (result : Passed) → IsReturned name after mid new → WhyBack result group seen after fs → PassedBy result group name (beside old others fs) (beside new others fs) fs
    back_by Done back why = inr (λ first label none is naming.
        let told = told_free (held_as hs name) old.free name first none is in
        let was = took.was_told old mid [] hs name seen after are handed kept same told in
        let e : first ≡ seen = cc in
        elim (why label (subst (IsNaming group label) e naming)) [
          | inl rose ↦ inl (took.rose_back old mid [] hs name seen after are handed kept same new back rose)
          | inr used ↦ inr (has_slot label.slot name fs before used)
        ])
    back_by Cut back why = λ told. (name, after, took.told_back old mid [] hs name seen after are handed kept same new back told, why)
    back_by OutOfMemory back why = tt

    pass_back : (result : Passed) → IsReturned name after mid new → WhyBack result group seen after fs → PassGoes result group name (beside old others fs) (beside new others fs) fs
    pass_back result back why = record {
      held = took.held_back old mid [] hs name seen after are handed kept same new back;
      reads = took.read_back old mid [] hs name seen after are handed kept same new back;
      headers = header_back old mid [] hs name seen after are handed kept same most new back;
      ends = back_by result back why;
    }

    -- it was taken and is kept
    module _ (found : IsFound group name seen after fs fs') where
      abbrev now : Holder
      now = record { name = name; seen = after }

      abbrev xs : List Holder
      xs = others ++ holders_of found.kept.put.front

      abbrev ys : List Holder
      ys = holders_of found.kept.put.back

      find_is : holder_of found.kept.find ≡ now
      find_is = ap (λ n. let h : Holder = record { name = n; seen = found.kept.find.seen } in h) found.kept.name_is ∙ ap (λ s. let h : Holder = record { name = name; seen = s } in h) found.kept.seen_is

      old_is : hs ≡ xs ++ ys
      old_is = ap (λ gs. others ++ holders_of gs) found.kept.put.old ∙ ap (λ ks. others ++ ks) (holders_put found.kept.put.front found.kept.put.back) ∙ sym (append_assoc others (holders_of found.kept.put.front) ys)

      new_is : others ++ holders_of fs' ≡ xs ++ now ∷ ys
      new_is =
          ap (λ gs. others ++ holders_of gs) found.kept.put.new
          ∙ ap (λ ks. others ++ ks) (holders_put found.kept.put.front (found.kept.find ∷ found.kept.put.back))
          ∙ ap (λ h. others ++ (holders_of found.kept.put.front ++ h ∷ ys)) find_is
          ∙ sym (append_assoc others (holders_of found.kept.put.front) (now ∷ ys))

      are_split : AreHeld old.held (xs ++ ys)
      are_split = subst (AreHeld old.held) old_is are

      pass_kept : PassGoes Done group name (beside old others fs) (beside mid others fs') fs'
      pass_kept = record {
        held = subst (AreHeld mid.held) (sym new_is) (took.held_now old mid xs ys name seen after are_split handed kept same);
        reads = subst (λ ks. OnlyRead (scene_of old hs) (scene_of mid ks)) (sym new_is) (subst (λ ks. OnlyRead (scene_of old ks) (scene_of mid (xs ++ now ∷ ys))) (sym old_is) (took.read_now old mid xs ys name seen after are_split handed kept same));
        headers = subst (λ ks. IsSome old.free → HeadersRead (name ∷ []) (scene_of old hs) (scene_of mid ks)) (sym new_is) (subst (λ ks. IsSome old.free → HeadersRead (name ∷ []) (scene_of old ks) (scene_of mid (xs ++ now ∷ ys))) (sym old_is) (header_kept old mid xs ys name seen after are_split handed kept same most));
        ends = inr (λ first label none is naming.
            let told = told_free (held_as hs name) old.free name first none is in
            let was = took.was_told old mid [] hs name seen after are handed kept same told in
            let e : first ≡ seen = cc in
            let same_label : label ≡ found.label = found.only label (subst (IsNaming group label) e naming) in
            inr (any_at_put (λ f. (f.label.slot ≡ label.slot) × IsUpTo f.device name) found.kept.find fs fs' found.kept.put (ap (λ (l : Label). l.slot) (found.kept.label_is ∙ sym same_label), self_up_to found.kept.find.device name found.kept.name_is)));
      }

    -- what the look at a device that was taken leaves
    pub look_goes : (result : Passed) → LookBy result group name seen after fs fs' mid new → PassGoes result group name (beside old others fs) (beside new others fs') fs'
    look_goes result (inl (back, none, why)) = subst (λ gs. PassGoes result group name (beside old others fs) (beside new others gs) gs) (sym none) (pass_back result back why)
    look_goes result (inr (done, still, found)) = subst (λ r. PassGoes r group name (beside old others fs) (beside new others fs') fs') (sym done) (subst (λ (s : Shelved). PassGoes Done group name (beside old others fs) (beside s others fs') fs') (sym still) (pass_kept found))

  pub look_before : (result : Passed) → LookBy result group name seen after fs fs' mid new → (next : Word) → AllBefore fs next → slice_cmp nat_cmp name next ≡ Less → AllBefore fs' next
  look_before result (inl (back, none, why)) next before less = subst (λ gs. AllBefore gs next) (sym none) before
  look_before result (inr (done, still, found)) next before less =
      all_on_put (λ f. slice_cmp nat_cmp f.device next ≡ Less) found.kept.find fs fs' found.kept.put (ap (λ n. slice_cmp nat_cmp n next) found.kept.name_is ∙ less) before

  pub look_more : (result : Passed) → LookBy result group name seen after fs fs' mid new → (slot : ℕ) (other : Word) → HasSlot slot other fs → HasSlot slot other fs'
  look_more result (inl (back, none, why)) slot other has = subst (HasSlot slot other) (sym none) has
  look_more result (inr (done, still, found)) slot other has = any_on_put (λ f. (f.label.slot ≡ slot) × IsUpTo f.device other) found.kept.find fs fs' found.kept.put has
