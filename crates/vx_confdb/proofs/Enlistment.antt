-- What a disk that joins has written to it, first by its joining and then by the commit.
use Rattle.std.proofs.Common.{◌≡◌, ◌⊎◌, ℕ, ◌+◌, ◌-◌, ◌<◌, ◌≤◌, Bool, true, false, List, [], ◌∷◌, ◌++◌, length, take, drop, Option, Some, None, refl, sym, ap, ◌∙◌, subst, arith, inl, inr}
use Rattle.std.proofs.lemmas.List.{take_all}
use Rattle.vx_base.specs.Blocks.{Contents}
use Rattle.vx_base.specs.Named.{Word}
use Rattle.vx_sector.specs.Fields.{zeros}
use Rattle.vx_header.specs.Named.{Label, header_of}
use Rattle.vx_piece.specs.Seen.{Seen}
use Rattle.vx_copies.specs.Lists.{Each, AllOf}
use Rattle.vx_copies.specs.Disks.{DiskSeen, CommitGoes, Offers, good_count}
use Rattle.vx_copies.specs.Written.{BothTell, OldOrText, Turns, Touches, IsMaskOf, IsQuiet, Recorded, WritesJust, IsDone, sectors_of}
use Rattle.vx_copies.proofs.WriteCounts.{both_same, tell_map, tell_trans, tell_refl}
use Rattle.vx_copies.proofs.StepLaws.{keeps_refl, drops_refl, each_refl, each_map, each_then, each_both, each_from}
use Rattle.vx_copies.proofs.Touches.{touches_masks}
use Rattle.vx_copies.proofs.Records.{Fades, goes_fade, fades_good, mask_before, quiet_after}
use Rattle.vx_confdb.specs.Prepare.{Says, label_in, Begins, IsBlank, OnlyFront, Fronts, Prepares, PrepareEnds, IsPrepared}
use Rattle.vx_confdb.specs.Enlisted.{IsTurnedTo, Comes, BehindOldOrText, Enlists, AreEnlisted, IsEnlisted, IsAddedTo}
use Rattle.vx_confdb.specs.declared.joining.Prepared.{Prepared}
use Rattle.vx_confdb.specs.declared.joining.Prepared.TheVariants.{Done, Cut}
use Rattle.vx_confdb.proofs.Labels.{same_label}
use Rattle.vx_confdb.proofs.Additions.{first_of, take_each, drop_each, drop_first, each_last}

module _ (group : Word) (f l : ℕ) (text : List ℕ) (M : ℕ → Type 0) where
  comes_begun : (label : Label) (t u : Option Contents) → Begins label t u → BothTell (Comes label f l text M) t u
  comes_begun label None None is = tt
  comes_begun label None (Some d) is = absurd is
  comes_begun label (Some c) None is = absurd is
  comes_begun label (Some c) (Some d) (inl same, rest) = inl same
  comes_begun label (Some c) (Some d) (inr (inl still), rest) = inr (inl still)
  comes_begun label (Some c) (Some d) (inr (inr headed), rest) = inr (inr (headed.0, inl headed.1))

  comes_by : (label : Label) (b c : DiskSeen) (u v x : Contents) → u 1 ≡ x 1 → header_of (v 0) ≡ Some label → Turns f l text M b c u v → (header_of (v 0) ≡ Some label) × ((v 1 ≡ x 1) ⊎ IsTurnedTo f l text M v)
  comes_by label b c u v x blank says (inl stay) = (says, inl (stay.toggle ∙ blank))
  comes_by label b c u v x blank says (inr (inl once)) = (says, inr (record { half = 1 - b.half; turned = once.turned }))
  comes_by label b c u v x blank says (inr (inr again)) = (says, inr (record { half = again.now; turned = again.turned }))

  comes_written : (label : Label) (b c : DiskSeen) (t u v : Option Contents) → Begins label t u → IsBlank u → Says label u → Offers f l text u v → BothTell (Turns f l text M b c) u v → BothTell (Comes label f l text M) t v
  comes_written label b c None None None begins blank says offers turns = tt
  comes_written label b c None None (Some z) begins blank says offers turns = absurd turns
  comes_written label b c None (Some y) v begins blank says offers turns = absurd begins
  comes_written label b c (Some x) None v begins blank says offers turns = absurd begins
  comes_written label b c (Some x) (Some y) None begins blank says offers turns = absurd turns
  comes_written label b c (Some x) (Some y) (Some z) begins blank says offers turns = inr (inr (comes_by label b c y z (λ k. zeros 512) blank (ap header_of offers.0 ∙ says) turns))

  behind : (x y z : Contents) → OnlyFront x y → OldOrText text y z → BehindOldOrText text x z
  behind x y z front only k le = elim (only k (λ e. omega (arith, le, e))) [ inl same ↦ inl (same ∙ front k le) | inr new ↦ inr (new ∙ both_same text x y k (inl (front k le))) ]

  pub enlist_none : (a : DiskSeen) → Enlists group f l text M a a
  enlist_none a = record { comes = tell_refl (Comes (label_in group a) f l text M) (λ c. inl refl) a.seen.told; only = tell_refl (BehindOldOrText text) (λ c k le. inl refl) a.seen.told; reads = refl; writes = omega arith }

  -- a disk that joined alone
  pub enlist_begun : (a b : DiskSeen) → Prepares group a b → Fronts 2 a b → Enlists group f l text M a b
  enlist_begun a b p fronts = record {
    comes = comes_begun (label_in group a) a.seen.told b.seen.told p.told;
    only = tell_map OnlyFront (BehindOldOrText text) (λ c d is k le. inl (is k le)) a.seen.told b.seen.told fronts.only;
    reads = fronts.reads;
    writes = let w = fronts.writes in omega (arith, w);
  }

  -- and then was written
  pub enlist_written : (a b c : DiskSeen) → Prepares group a b → Fronts 2 a b → IsPrepared group b → CommitGoes f l text b c → Touches f l text M b c → Enlists group f l text M a c
  enlist_written a b c p fronts prepared goes touches = record {
    comes = by b.good refl;
    only = tell_trans OnlyFront (OldOrText text) (BehindOldOrText text) behind a.seen.told b.seen.told c.seen.told fronts.only touches.only;
    reads = touches.reads ∙ fronts.reads;
    writes = let v = fronts.writes in let w = touches.writes in omega (arith, v, w);
  }
    where
      by : (g : Bool) → b.good ≡ g → BothTell (Comes (label_in group a) f l text M) a.seen.told c.seen.told
      by true good = comes_written (label_in group a) b c a.seen.told b.seen.told c.seen.told p.told (prepared.blank good) (subst (λ x. Says x b.seen.told) (same_label group a b p.name p.slot p.size) (prepared.headed good)) goes.offers touches.turns
      by false bad = subst (λ (s : Seen). BothTell (Comes (label_in group a) f l text M) a.seen.told s.told) (sym (goes.idle bad)) (comes_begun (label_in group a) a.seen.told b.seen.told p.told)

pub prepares_fade : (group : Word) (a b : DiskSeen) → Prepares group a b → Fades a b
prepares_fade group a b is = record { slot = is.slot; kept = is.kept; good = is.good }

just_then : (m n : ℕ) (a b c : DiskSeen) → WritesJust m a b → Fades b c × WritesJust n b c → WritesJust (m + n) a c
just_then m n a b c p q good = let first = p (fades_good b c q.0 good) in let second = q.1 good in omega (arith, first, second)

module _ (group : Word) (text : List ℕ) (hs ms : List DiskSeen) (prepares : Each (Prepares group) hs ms) (fronts : Each (Fronts 2) hs ms) where
  joined_fade : Each Fades hs ms
  joined_fade = each_map (Prepares group) Fades (prepares_fade group) hs ms prepares

  -- a group's disks that joined
  pub all_begun : AreEnlisted group 0 text hs ms
  all_begun = record {
    enlists = each_map (λ a b. Prepares group a b × Fronts 2 a b) (Enlists group 1 0 text (IsMaskOf hs ms)) (λ a b is. enlist_begun group 1 0 text (IsMaskOf hs ms) a b is.0 is.1) hs ms (each_both _ _ hs ms prepares fronts);
    once = λ quiet. omega arith;
  }

  module _ (l : ℕ) (bs : List DiskSeen) (prepared : AllOf (IsPrepared group) ms) (goes : Each (CommitGoes 1 l text) ms bs) (recorded : Recorded 1 l text ms bs) where
    fade : Each Fades ms bs
    fade = each_map (CommitGoes 1 l text) Fades (goes_fade 1 l text) ms bs goes

    pub all_enlisted : AreEnlisted group l text hs bs
    all_enlisted = record {
      enlists = each_then (λ a b. Prepares group a b × Fronts 2 a b) (λ b c. IsPrepared group b × (CommitGoes 1 l text b c × Touches 1 l text (IsMaskOf ms bs) b c)) (Enlists group 1 l text (IsMaskOf hs bs))
          (λ a b c p q. enlist_written group 1 l text (IsMaskOf hs bs) a b c p.0 p.1 q.0 q.1.0 (touches_masks 1 l text (IsMaskOf ms bs) (IsMaskOf hs bs) (mask_before hs ms bs joined_fade fade) b c q.1.1)) hs ms bs
          (each_both _ _ hs ms prepares fronts) (each_from (IsPrepared group) _ ms bs prepared (each_both _ _ ms bs goes recorded.touches));
      once = λ quiet. recorded.once (quiet_after hs ms bs joined_fade fade quiet);
    }

    pub all_just : (m n : ℕ) → Each (WritesJust m) hs ms → (Each IsQuiet ms bs → Each (WritesJust n) ms bs) → Each IsQuiet hs bs → Each (WritesJust (m + n)) hs bs
    all_just m n first second quiet = each_then (WritesJust m) (λ b c. Fades b c × WritesJust n b c) (WritesJust (m + n)) (just_then m n) hs ms bs first (each_both Fades (WritesJust n) ms bs fade (second (quiet_after hs ms bs joined_fade fade quiet)))

-- all disks are carriers
pub done_all : (n s : ℕ) (text : List ℕ) (bs : List DiskSeen) → length bs ≤ n → IsDone n s text bs → IsDone (length bs) s text bs
done_all n s text bs le is = record {
  some = subst (λ xs. 0 < good_count xs) (take_all n bs le ∙ sym (take_all (length bs) bs (omega arith))) is.some;
  current = is.current;
}

pub all_none : (group : Word) (text : List ℕ) (hs : List DiskSeen) → AreEnlisted group 0 text hs hs
all_none group text hs = record { enlists = each_refl _ (enlist_none group 1 0 text (IsMaskOf hs hs)) hs; once = λ quiet. omega arith }

-- one disk that joins behind the others
module _ (r : Prepared) (group : Word) (n f l : ℕ) (text : List ℕ) (hs ms bs : List DiskSeen) (h h' : DiskSeen) (long : n ≡ length hs) (is : ms ≡ hs ++ h' ∷ []) (prepares : Prepares group h h') (fronts : Fronts 2 h h') (ends : PrepareEnds r group h') (stays : r ≡ Cut → bs ≡ ms) (goes : Each (CommitGoes f l text) ms bs) (recorded : Recorded f l text ms bs) where
  fade_none : (a : DiskSeen) → Fades a a
  fade_none a = record { slot = refl; kept = keeps_refl a.seen; good = drops_refl a.good a.seen }

  first_fade : Each Fades (hs ++ h ∷ []) ms
  first_fade = subst (Each Fades (hs ++ h ∷ [])) (sym is) (each_last Fades hs hs h h' (each_refl Fades fade_none hs) (prepares_fade group h h' prepares))

  next_fade : Each Fades ms bs
  next_fade = each_map (CommitGoes f l text) Fades (goes_fade f l text) ms bs goes

  wider : (m : ℕ) → IsMaskOf ms bs m → IsMaskOf (hs ++ h ∷ []) bs m
  wider = mask_before (hs ++ h ∷ []) ms bs first_fade next_fade

  old_first : take n ms ≡ take n (hs ++ h ∷ [])
  old_first = ap (take n) is ∙ first_of n hs (h' ∷ []) long ∙ sym (first_of n hs (h ∷ []) long)

  last_of : (x : DiskSeen) → drop n (hs ++ x ∷ []) ≡ x ∷ []
  last_of x = ap (λ k. drop k (hs ++ x ∷ [])) long ∙ drop_first hs (x ∷ [])

  -- the new disk among the lists that it ends
  last_by : (R T : DiskSeen → DiskSeen → Type 0) → ((x : DiskSeen) → R h' x → T h x) → Each R ms bs → Each T (drop n (hs ++ h ∷ [])) (drop n bs)
  last_by R T one all = subst (λ xs. Each T xs (drop n bs)) (sym (last_of h)) (by (drop n bs) (subst (λ xs. Each R xs (drop n bs)) (ap (drop n) is ∙ last_of h') (drop_each R n ms bs all)))
    where
      by : (xs : List DiskSeen) → Each R (h' ∷ []) xs → Each T (h ∷ []) xs
      by [] all = absurd all
      by (x ∷ []) all = (one x all.0, tt)
      by (x ∷ (y ∷ ys)) all = absurd all.1

  new_enlists : (r' : Prepared) → PrepareEnds r' group h' → (r' ≡ Cut → bs ≡ ms) → Each (Enlists group f l text (IsMaskOf (hs ++ h ∷ []) bs)) (drop n (hs ++ h ∷ [])) (drop n bs)
  new_enlists Done ends stays = last_by (λ b c. CommitGoes f l text b c × Touches f l text (IsMaskOf ms bs) b c) (Enlists group f l text (IsMaskOf (hs ++ h ∷ []) bs))
      (λ x both. enlist_written group f l text (IsMaskOf (hs ++ h ∷ []) bs) h h' x prepares fronts ends both.0 (touches_masks f l text (IsMaskOf ms bs) (IsMaskOf (hs ++ h ∷ []) bs) wider h' x both.1)) (each_both _ _ ms bs goes recorded.touches)
  new_enlists Cut ends stays = last_by (λ b c. c ≡ b) (Enlists group f l text (IsMaskOf (hs ++ h ∷ []) bs)) (λ x same. subst (Enlists group f l text (IsMaskOf (hs ++ h ∷ []) bs) h) (sym same) (enlist_begun group f l text (IsMaskOf (hs ++ h ∷ []) bs) h h' prepares fronts))
      (subst (Each (λ b c. c ≡ b) ms) (sym (stays refl)) (each_refl (λ (b c : DiskSeen). c ≡ b) (λ b. refl) ms))

  pub is_enlisted : IsEnlisted group f l n text (hs ++ h ∷ []) bs
  is_enlisted = record {
    touches = subst (λ xs. Each (Touches f l text (IsMaskOf (hs ++ h ∷ []) bs)) xs (take n bs)) old_first
        (take_each (Touches f l text (IsMaskOf (hs ++ h ∷ []) bs)) n ms bs (each_map (Touches f l text (IsMaskOf ms bs)) (Touches f l text (IsMaskOf (hs ++ h ∷ []) bs)) (touches_masks f l text (IsMaskOf ms bs) (IsMaskOf (hs ++ h ∷ []) bs) wider) ms bs recorded.touches));
    enlists = new_enlists r ends stays;
    once = λ quiet. recorded.once (quiet_after (hs ++ h ∷ []) ms bs first_fade next_fade quiet);
  }

  pub is_added : WritesJust 2 h h' → IsDone n l text bs → (Each IsQuiet ms bs → Each (WritesJust (sectors_of text)) ms bs) → IsAddedTo l n text (hs ++ h ∷ []) bs
  is_added twice done exact = record {
    done = done;
    exact = λ quiet.
        let just = exact (quiet_after (hs ++ h ∷ []) ms bs first_fade next_fade quiet) in (
          subst (λ xs. Each (WritesJust (sectors_of text)) xs (take n bs)) old_first (take_each (WritesJust (sectors_of text)) n ms bs just),
          last_by (λ b c. Fades b c × WritesJust (sectors_of text) b c) (WritesJust (2 + sectors_of text)) (λ x both. just_then 2 (sectors_of text) h h' x twice both) (each_both _ _ ms bs next_fade just),
        );
  }

pub not_cut : (r : Prepared) → (r ≡ Cut → ⊥) → r ≡ Done
not_cut Done not = refl
not_cut Cut not = absurd (not refl)
