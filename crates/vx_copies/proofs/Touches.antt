-- What one attempt does to a disk, and one attempt after others.
use Rattle.std.proofs.Common.{◌≡◌, ◌⊎◌, ℕ, ◌+◌, ◌-◌, ◌*◌, ◌≤◌, Bool, true, false, List, length, Option, Some, None, refl, sym, ap, ◌∙◌, subst, arith, inl, inr}
use Rattle.std.specs.Prelude.{IsTrue, MatchOption}
use Rattle.vx_base.specs.Blocks.{Contents}
use Rattle.vx_copies.specs.Lists.{Each, AllOf}
use Rattle.vx_copies.specs.Image.{half_start, sectors_for}
use Rattle.vx_copies.specs.Disks.{DiskSeen, NamesHalf, IsReady, CommitGoes, Drops}
use Rattle.vx_copies.specs.Written.{BothTell, Holds, HalfStays, OldOrText, IsTurned, TurnedAgain, Turns, Touches, sectors_of, IsCurrent, CarriesIfGood, WritesJust}
use Rattle.vx_copies.specs.Steps.{HalfLeaves, HalfPut, HalfDone, Says, ToggleLeaves, TogglePut, ToggleDone}
use Rattle.vx_copies.proofs.StepLaws.{same_toggle, each_then, each_both, each_from}
use Rattle.vx_copies.proofs.Halves.{few_sectors, blocks_same}
use Rattle.vx_copies.proofs.WriteCounts.{only_refl, only_trans, tell_refl, tell_trans, tell_map}
use Rattle.vx_copies.proofs.Counts.{more_calls}

-- nothing was written
pub half_none : (text : List ℕ) (a : DiskSeen) → HalfPut text a a
half_none text a = record {
  half = refl;
  told = tell_refl (HalfLeaves a.half text) (λ c. record { toggle = refl; named = λ k le lt. refl; only = only_refl text c }) a.seen.told;
  reads = refl;
  writes = omega arith;
}

pub toggle_none : (s m : ℕ) (text : List ℕ) (a : DiskSeen) → TogglePut s m text a a
toggle_none s m text a = record {
  told = tell_refl (ToggleLeaves s m text a a) (λ c. record { toggle = inl (refl, λ good. refl); others = λ k not. refl }) a.seen.told;
  reads = refl;
  writes = omega arith;
}

pub half_put : (text : List ℕ) (a b : DiskSeen) → HalfDone text a b → HalfPut text a b
half_put text a b is = is.put

pub toggle_put : (s m : ℕ) (text : List ℕ) (a b : DiskSeen) → ToggleDone s m text a b → TogglePut s m text a b
toggle_put s m text a b is = is.put

pub touches_none : (f l : ℕ) (text : List ℕ) (M : ℕ → Type 0) (a : DiskSeen) → Touches f l text M a a
touches_none f l text M a = record {
  turns = tell_refl (Turns f l text M a a) (λ c. inl (record { toggle = refl; named = λ k le lt. refl; half = λ good. refl })) a.seen.told;
  only = tell_refl (OldOrText text) (only_refl text) a.seen.told;
  reads = refl;
  writes = omega arith;
}

-- the same with more masks
turned_masks : (f l : ℕ) (text : List ℕ) (M K : ℕ → Type 0) → ((m : ℕ) → M m → K m) → (h : ℕ) (c : Contents) → IsTurned f l text M h c → IsTurned f l text K h c
turned_masks f l text M K more h c is = record { sequence = is.sequence; mask = is.mask; from = is.from; up_to = is.up_to; masks = more is.mask is.masks; says = is.says; holds = is.holds }

pub touches_masks : (f l : ℕ) (text : List ℕ) (M K : ℕ → Type 0) → ((m : ℕ) → M m → K m) → (a b : DiskSeen) → Touches f l text M a b → Touches f l text K a b
touches_masks f l text M K more a b is = record { turns = tell_map (Turns f l text M a b) (Turns f l text K a b) by a.seen.told b.seen.told is.turns; only = is.only; reads = is.reads; writes = is.writes }
  where
    by : (c d : Contents) → Turns f l text M a b c d → Turns f l text K a b c d
    by c d (inl stay) = inl stay
    by c d (inr (inl once)) = inr (inl (record { turned = turned_masks f l text M K more (1 - a.half) d once.turned; named = once.named }))
    by c d (inr (inr again)) = inr (inr (record { again = again.again; now = again.now; turned = turned_masks f l text M K more again.now d again.turned }))

one_attempt : (s k : ℕ) → (s + 1 - s) * k ≡ k
one_attempt s k = let one : s + 1 - s ≡ 1 = omega arith in ap (λ n. n * k) one ∙ (let e : 1 * k ≡ k = omega arith in e)

within : (s k a b : ℕ) → b ≤ a + k → b ≤ a + (s + 1 - s) * k
within s k a b le = omega (arith, le, one_attempt s k)

far : (half k : ℕ) → half_start half ≤ k → k ≡ 1 → ⊥
far half k le e = omega (arith, le, e)

pub holds_on : (text : List ℕ) (half : ℕ) (c d : Contents) → length text ≤ 522240 → HalfStays half c d → Holds text half c → Holds text half d
holds_on text half c d fits stays holds =
    let few = few_sectors (length text) fits in
    blocks_same (sectors_for (length text)) (half_start half) c d (λ k le lt. stays k le (omega (arith, lt, few))) ∙ holds

others_half : (half : ℕ) (c d : Contents) → ((k : ℕ) → (k ≡ 1 → ⊥) → d k ≡ c k) → HalfStays half c d
others_half half c d others k le lt = others k (far half k le)

module _ (s : ℕ) (text : List ℕ) (M : ℕ → Type 0) where
  -- an attempt that wrote halves alone
  pub half_touches : (a b : DiskSeen) → HalfPut text a b → Touches s s text M a b
  half_touches a b put = record {
    turns = tell_map (HalfLeaves a.half text) (Turns s s text M a b) (λ c d is. inl (record { toggle = is.toggle; named = is.named; half = λ good. put.half })) a.seen.told b.seen.told put.told;
    only = tell_map (HalfLeaves a.half text) (OldOrText text) (λ c d is. is.only) a.seen.told b.seen.told put.told;
    reads = put.reads;
    writes = let le = put.writes in within s (sectors_of text) a.seen.writes b.seen.writes (omega (arith, le));
  }

  module _ (m : ℕ) (is_mask : M m) (fits : length text ≤ 522240) (a mid b : DiskSeen) (half : HalfDone text a mid) where
    turned_by : (c e d : Contents) → HalfLeaves a.half text c e → ToggleLeaves s m text mid b e d → (IsTrue a.good → Holds text (1 - a.half) e) → Turns s s text M a b c d
    turned_by c e d first second holds = by second.toggle
      where
        stays : HalfStays a.half c d
        stays k le lt = others_half a.half e d second.others k le lt ∙ first.named k le lt

        by : ((d 1 ≡ e 1) × (IsTrue b.good → b.half ≡ mid.half)) ⊎ (IsTrue mid.good × Says s m text (1 - mid.half) d) → Turns s s text M a b c d
        by (inl same) = inl (record { toggle = same.0 ∙ first.toggle; named = stays; half = λ good. same.1 good ∙ half.put.half })
        by (inr new) = inr (inl (record {
          turned = record {
            sequence = s;
            mask = m;
            from = omega arith;
            up_to = omega arith;
            masks = is_mask;
            says = subst (λ h. Says s m text (1 - h) d) half.put.half new.1;
            holds = holds_on text (1 - a.half) e d fits (others_half (1 - a.half) e d second.others) (holds (sym half.good ∙ new.0));
          };
          named = stays;
        }))

    turned_told : (t u v : Option Contents) → BothTell (HalfLeaves a.half text) t u → BothTell (ToggleLeaves s m text mid b) u v → (IsTrue a.good → MatchOption u (Unit {0}) (Holds text (1 - a.half))) → BothTell (Turns s s text M a b) t v
    turned_told None None None p q h = tt
    turned_told None None (Some d) p q h = absurd q
    turned_told None (Some e) v p q h = absurd p
    turned_told (Some c) None v p q h = absurd p
    turned_told (Some c) (Some e) None p q h = absurd q
    turned_told (Some c) (Some e) (Some d) p q h = turned_by c e d p q h

    -- one that went on to the toggles
    pub both_touch : TogglePut s m text mid b → Touches s s text M a b
    both_touch put = record {
      turns = turned_told a.seen.told mid.seen.told b.seen.told half.put.told put.told half.holds;
      only = tell_trans (HalfLeaves a.half text) (ToggleLeaves s m text mid b) (OldOrText text) (λ c e d p q. only_trans text c e d p.only (λ k not. inl (q.others k not))) a.seen.told mid.seen.told b.seen.told half.put.told put.told;
      reads = put.reads ∙ half.put.reads;
      writes = let first = half.put.writes in let second = put.writes in within s (sectors_of text) a.seen.writes b.seen.writes (omega (arith, first, second));
    }

    module _ (done : ToggleDone s m text mid b) where
      was_good : IsTrue b.good → IsTrue a.good
      was_good good = sym half.good ∙ sym done.good ∙ good

      -- one that is done
      pub writes_once : WritesJust (sectors_of text) a b
      writes_once good =
          let first = half.writes (was_good good) in
          let second = done.writes (sym done.good ∙ good) in
          omega (arith, first, second)

      carried : (u v : Option Contents) → BothTell (ToggleLeaves s m text mid b) u v → MatchOption u (Unit {0}) (Holds text (1 - a.half)) → MatchOption v (Unit {0}) (Says s m text (1 - mid.half)) → b.half ≡ 1 - mid.half → MatchOption v (Unit {0}) (IsCurrent s m text b.half)
      carried None None put holds says now = tt
      carried None (Some d) put holds says now = absurd put
      carried (Some e) None put holds says now = absurd put
      carried (Some e) (Some d) put holds says now =
          let same : 1 - a.half ≡ b.half = ap (λ h. 1 - h) (sym half.put.half) ∙ sym now in
          record {
            says = subst (λ h. Says s m text h d) (sym now) says;
            holds = subst (λ h. Holds text h d) same (holds_on text (1 - a.half) e d fits (others_half (1 - a.half) e d put.others) holds);
          }

      pub carries : CarriesIfGood s m text b
      carries good = carried mid.seen.told b.seen.told done.put.told (half.holds (was_good good)) (done.says (sym done.good ∙ good)) (done.half (sym done.good ∙ good))

-- one attempt after others
module _ (f l : ℕ) (text : List ℕ) (fits : length text ≤ 522240) (M N K : ℕ → Type 0) (first_masks : (m : ℕ) → M m → K m) (next_masks : (m : ℕ) → N m → K m) (le : f ≤ l + 1) where
  turned_wider : (h : ℕ) (c : Contents) → IsTurned f l text M h c → IsTurned f (l + 1) text K h c
  turned_wider h c is = record { sequence = is.sequence; mask = is.mask; from = is.from; up_to = let u = is.up_to in omega (arith, u); masks = first_masks is.mask is.masks; says = is.says; holds = is.holds }

  turned_next : (h : ℕ) (c : Contents) → IsTurned (l + 1) (l + 1) text N h c → IsTurned f (l + 1) text K h c
  turned_next h c is = record { sequence = is.sequence; mask = is.mask; from = let u = is.from in omega (arith, u, le); up_to = is.up_to; masks = next_masks is.mask is.masks; says = is.says; holds = is.holds }

  turned_stays : (h : ℕ) (c d : Contents) → d 1 ≡ c 1 → HalfStays h c d → IsTurned f (l + 1) text K h c → IsTurned f (l + 1) text K h d
  turned_stays h c d e stays is = record { sequence = is.sequence; mask = is.mask; from = is.from; up_to = is.up_to; masks = is.masks; says = same_toggle c d e ∙ is.says; holds = holds_on text h c d fits stays is.holds }

  named_is : (h b : ℕ) (c : Contents) → IsTurned f l text M h c → NamesHalf b (Some c) → h ≡ b
  named_is h b c is names = subst (λ o. MatchOption o (Unit {0}) (λ t. t.half ≡ b)) is.says names

  module _ (a b c : DiskSeen) where
    again_on : (h : ℕ) (y z : Contents) → IsTurned f l text M h y → NamesHalf b.half (Some y) → Turns (l + 1) (l + 1) text N b c y z → TurnedAgain f (l + 1) text K z
    again_on h y z is names (inl stay) = record {
      again = let from = is.from in let to = is.up_to in omega (arith, from, to);
      now = h;
      turned = turned_stays h y z stay.toggle (subst (λ n. HalfStays n y z) (sym (named_is h b.half y is names)) stay.named) (turned_wider h y is);
    }
    again_on h y z is names (inr (inl once)) = record { again = let from = is.from in let to = is.up_to in omega (arith, from, to); now = 1 - b.half; turned = turned_next (1 - b.half) z once.turned }
    again_on h y z is names (inr (inr more)) = absurd (let lt = more.again in omega (arith, lt))

    turns_on : IsTrue b.good → (x y z : Contents) → NamesHalf b.half (Some y) → Turns f l text M a b x y → Turns (l + 1) (l + 1) text N b c y z → Turns f (l + 1) text K a c x z
    turns_on good x y z names (inl stay) (inl next) =
        let same = stay.half good in
        let stays : HalfStays a.half y z = subst (λ n. HalfStays n y z) same next.named in
        inl (record { toggle = next.toggle ∙ stay.toggle; named = λ k lo hi. stays k lo hi ∙ stay.named k lo hi; half = λ g. next.half g ∙ same })
    turns_on good x y z names (inl stay) (inr (inl once)) =
        let same = stay.half good in
        let stays : HalfStays a.half y z = subst (λ n. HalfStays n y z) same once.named in
        inr (inl (record { turned = subst (λ n. IsTurned f (l + 1) text K (1 - n) z) same (turned_next (1 - b.half) z once.turned); named = λ k lo hi. stays k lo hi ∙ stay.named k lo hi }))
    turns_on good x y z names (inl stay) (inr (inr more)) = absurd (let lt = more.again in omega (arith, lt))
    turns_on good x y z names (inr (inl once)) next = inr (inr (again_on (1 - a.half) y z once.turned names next))
    turns_on good x y z names (inr (inr more)) next = inr (inr (again_on more.now y z more.turned names next))

    told_on : IsTrue b.good → (t u v : Option Contents) → NamesHalf b.half u → BothTell (Turns f l text M a b) t u → BothTell (Turns (l + 1) (l + 1) text N b c) u v → BothTell (Turns f (l + 1) text K a c) t v
    told_on good None None None names p q = tt
    told_on good None None (Some z) names p q = absurd q
    told_on good None (Some y) v names p q = absurd p
    told_on good (Some x) None v names p q = absurd p
    told_on good (Some x) (Some y) None names p q = absurd q
    told_on good (Some x) (Some y) (Some z) names p q = turns_on good x y z names p q

    -- a disk that is not good any more
    idle_on : (IsTrue c.good → ⊥) → (x y : Contents) → Turns f l text M a b x y → Turns f (l + 1) text K a c x y
    idle_on bad x y (inl stay) = inl (record { toggle = stay.toggle; named = stay.named; half = λ g. absurd (bad g) })
    idle_on bad x y (inr (inl once)) = inr (inl (record { turned = turned_wider (1 - a.half) y once.turned; named = once.named }))
    idle_on bad x y (inr (inr more)) = inr (inr (record { again = let lt = more.again in omega (arith, lt); now = more.now; turned = turned_wider more.now y more.turned }))

    turns_either : (g : Bool) → b.good ≡ g → IsReady b → CommitGoes (l + 1) (l + 1) text b c → Touches f l text M a b → Touches (l + 1) (l + 1) text N b c → BothTell (Turns f (l + 1) text K a c) a.seen.told c.seen.told
    turns_either true e ready goes p q = told_on e a.seen.told b.seen.told c.seen.told (ready.names e) p.turns q.turns
    turns_either false e ready goes p q =
        let same = goes.idle e in
        subst (λ s. BothTell (Turns f (l + 1) text K a c) a.seen.told s.told) (sym same) (tell_map (Turns f l text M a b) (Turns f (l + 1) text K a c) (idle_on (no_more b.good c.good e goes.good)) a.seen.told b.seen.told p.turns)
      where
        no_more : (x y : Bool) → x ≡ false → Drops x y b.seen c.seen → IsTrue y → ⊥
        no_more true y e d is = cc
        no_more false true e d is = cc
        no_more false false e d is = cc

    pub touches_on : IsReady b → CommitGoes (l + 1) (l + 1) text b c → Touches f l text M a b → Touches (l + 1) (l + 1) text N b c → Touches f (l + 1) text K a c
    touches_on ready goes p q = record {
      turns = turns_either b.good refl ready goes p q;
      only = tell_trans (OldOrText text) (OldOrText text) (OldOrText text) (only_trans text) a.seen.told b.seen.told c.seen.told p.only q.only;
      reads = q.reads ∙ p.reads;
      writes = more_calls a.seen.writes b.seen.writes c.seen.writes f l (sectors_of text) le p.writes q.writes;
    }

  pub all_on : (hs ms bs : List DiskSeen) → AllOf IsReady ms → Each (CommitGoes (l + 1) (l + 1) text) ms bs → Each (Touches f l text M) hs ms → Each (Touches (l + 1) (l + 1) text N) ms bs → Each (Touches f (l + 1) text K) hs bs
  all_on hs ms bs ready goes p q =
      each_then (Touches f l text M) (λ b c. IsReady b × (CommitGoes (l + 1) (l + 1) text b c × Touches (l + 1) (l + 1) text N b c)) (Touches f (l + 1) text K) (λ a b c first next. touches_on a b c next.0 next.1.0 first next.1.1) hs ms bs p
      (each_from IsReady _ ms bs ready (each_both _ _ ms bs goes q))
