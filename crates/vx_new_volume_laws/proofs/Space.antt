-- The subdisks of a new volume lie inside their disks, and on no other subdisk.
use Rattle.std.proofs.Common.{◌≡◌, ℕ, ◌+◌, ◌<◌, ◌≤◌, ◌&&◌, max, nat_le, nat_lt, Bool, true, false, cond, Option, Some, None, List, [], ◌∷◌, ◌++◌, refl, sym, ap, ◌∙◌, subst, inl, inr, arith, if◌then◌else◌}
use Rattle.std.specs.List.{fold}
use Rattle.std.specs.Str.{bytes_eq}
use Rattle.std.proofs.lemmas.Bool.{and_from, and_parts, false≢true, false_from_ne_true, le-leb, lt-ltb, ltb-true}
use Rattle.vx_base.specs.Named.{Word}
use Rattle.vx_base.proofs.NamedLemmas.{bytes_eq_self, bytes_eq_same}
use Rattle.vx_config_parts.specs.declared.fault.ObjectFault.TheVariants.{Outside}
use Rattle.vx_config_parts.specs.declared.object.Object.{Object}
use Rattle.vx_config_parts.specs.declared.object.Object.TheVariants.{GroupRecord, DiskRecord, SubdiskRecord, PlexRecord, VolRecord, DcoRecord, SnapRecord}
use Rattle.vx_config_parts.specs.declared.subdisk.Subdisk.{Subdisk}
use Rattle.vx_config_parts.specs.Objects.{comes_before, is_disk, is_subdisk, name_of}
use Rattle.vx_rules.specs.Overlap.{first_overlap, first_overlap_with, lesser, overlap_fault, overlap_of, overlaps_earlier, shares_sector}
use Rattle.vx_rules.proofs.NameOrder.{before_itself}
use Rattle.vx_rules.specs.declared.rule.Rule.TheVariants as rule
use Rattle.vx_rules.specs.Rules.{fault_in, fault_over}
use Rattle.vx_rules.specs.Space.{has_room, lies_inside, outside_fault}
use Rattle.vx_objects.specs.Config.{objects_of}
use Rattle.vx_image.proofs.PlexMembers.{IsIn, count_one, disk_in, in_any, in_either, same_subdisk, subdisk_of}
use Rattle.vx_image.proofs.Plexes.{config_valid}
use Rattle.vx_image.proofs.Valid.{is_inside}
use Rattle.vx_space.specs.Free.{covers}
use Rattle.vx_new_volumes.specs.declared.volume.NewVolume.{NewVolume}
use Rattle.vx_moments.specs.World.{Group}
use Rattle.vx_new_volume_laws.proofs.Parts.{of_each}
use Rattle.vx_new_volume_laws.proofs.Places.{Place, places}
use Rattle.vx_new_volume_laws.proofs.Placed.{as_placed}
use Rattle.vx_new_volume_laws.proofs.Repeats.{unless_true}
use Rattle.vx_new_volume_laws.proofs.Lists.{none_any}
use Rattle.vx_new_volume_laws.proofs.Lying.{IsCase, covered_once, filled, none_covers, on_disk}
use Rattle.vx_new_volume_laws.proofs.Ruled.{any_more, holds_in, holds_over, rule_holds, unless_kept}
use Rattle.vx_new_volume_laws.proofs.Beside.{sub_place}
use Rattle.vx_new_volume_laws.proofs.Limits.{Holds}

-- ---- inside

outside_more : (xs ys : List Object) (o : Object) → outside_fault xs o ≡ None → outside_fault (xs ++ ys) o ≡ None
outside_more xs ys (SubdiskRecord s) e =
    unless_kept (lies_inside xs s) (lies_inside (xs ++ ys) s) (Outside s.name)
    (λ h. let parts = and_parts (nat_lt 0 s.len) (has_room xs s) h in and_from (nat_lt 0 s.len) (has_room (xs ++ ys) s) parts.0 (any_more (λ o. is_disk (λ d. bytes_eq d.name s.disk && nat_le (s.off + s.len) d.publen) o) xs ys parts.1)) e
outside_more xs ys o e = refl

-- ---- overlaps

lesser_is : (best name : Word) → (w : Word) × (lesser (Some best) name ≡ Some w)
lesser_is best name = by (comes_before name best)
  where
    by : (b : Bool) → (w : Word) × ((if b then Some name else Some best) ≡ Some w)
    by true = (name, refl)
    by false = (best, refl)

some_stays : (all os : List Object) (best : Word) → fold (first_overlap_with all) (Some best) os ≡ None → ⊥
some_stays all [] best e = cc
some_stays all (SubdiskRecord s ∷ os) best e = by (overlaps_earlier all s) (some_stays all os) e
  where
    by : (b : Bool) → ((w : Word) → fold (first_overlap_with all) (Some w) os ≡ None → ⊥) → fold (first_overlap_with all) (cond b (lesser (Some best) s.name) (Some best)) os ≡ None → ⊥
    by true on h = let r = lesser_is best s.name in on r.0 (subst (λ (o : Option Word). fold (first_overlap_with all) o os ≡ None) r.1 h)
    by false on h = on best h
some_stays all (o ∷ os) best e = some_stays all os best e

-- where none is found, none overlaps an earlier one
none_overlaps : (all os : List Object) → fold (first_overlap_with all) None os ≡ None → (s : Subdisk) → IsIn os (SubdiskRecord s) → overlaps_earlier all s ≡ false
none_overlaps all [] e s there = absurd there
none_overlaps all (SubdiskRecord t ∷ os) e s there = by (overlaps_earlier all t) refl (none_overlaps all os) e there
  where
    by : (b : Bool) → overlaps_earlier all t ≡ b → (fold (first_overlap_with all) None os ≡ None → (s : Subdisk) → IsIn os (SubdiskRecord s) → overlaps_earlier all s ≡ false)
        → fold (first_overlap_with all) (cond b (lesser None t.name) None) os ≡ None → IsIn (SubdiskRecord t ∷ os) (SubdiskRecord s) → overlaps_earlier all s ≡ false
    by true is on h here = absurd (some_stays all os t.name h)
    by false is on h (inl same) = ap (λ (x : Subdisk). overlaps_earlier all x) (same_subdisk s t same) ∙ is
    by false is on h (inr more) = on h s more
none_overlaps all (GroupRecord x ∷ os) e s (inl same) = absurd cc
none_overlaps all (GroupRecord x ∷ os) e s (inr more) = none_overlaps all os e s more
none_overlaps all (DiskRecord x ∷ os) e s (inl same) = absurd cc
none_overlaps all (DiskRecord x ∷ os) e s (inr more) = none_overlaps all os e s more
none_overlaps all (PlexRecord x ∷ os) e s (inl same) = absurd cc
none_overlaps all (PlexRecord x ∷ os) e s (inr more) = none_overlaps all os e s more
none_overlaps all (VolRecord x ∷ os) e s (inl same) = absurd cc
none_overlaps all (VolRecord x ∷ os) e s (inr more) = none_overlaps all os e s more
none_overlaps all (DcoRecord x ∷ os) e s (inl same) = absurd cc
none_overlaps all (DcoRecord x ∷ os) e s (inr more) = none_overlaps all os e s more
none_overlaps all (SnapRecord x ∷ os) e s (inl same) = absurd cc
none_overlaps all (SnapRecord x ∷ os) e s (inr more) = none_overlaps all os e s more

none_first : (all os : List Object) → ((s : Subdisk) → IsIn os (SubdiskRecord s) → overlaps_earlier all s ≡ false) → fold (first_overlap_with all) None os ≡ None
none_first all [] each = refl
none_first all (SubdiskRecord s ∷ os) each =
    ap (λ (b : Bool). fold (first_overlap_with all) (cond b (lesser None s.name) None) os) (each s (inl refl)) ∙ none_first all os (λ t there. each t (inr there))
none_first all (o ∷ os) each = none_first all os (λ t there. each t (inr there))

none_of : (f : Option Word) → overlap_of f ≡ None → f ≡ None
none_of None e = refl
none_of (Some w) e = cc

own_none : (all : List Object) → fault_over rule.SubdisksDoNotOverlap all ≡ None → fold (first_overlap_with all) None all ≡ None
unfolding fault_over
own_none all e = none_of (first_overlap all) e

-- a sector that the two have in common
record Meet (s t : Subdisk) : Type 0 where
  sector : ℕ
  disk : s.disk ≡ t.disk
  from : s.off ≤ sector
  below : sector < s.off + s.len
  from' : t.off ≤ sector
  below' : sector < t.off + t.len

meet : (s t : Subdisk) → 0 < s.len → 0 < t.len → shares_sector s t ≡ true → Meet s t
meet s t some some' h =
    let a = and_parts (bytes_eq s.disk t.disk && nat_lt s.off (t.off + t.len)) (nat_lt t.off (s.off + s.len)) h in
    let b = and_parts (bytes_eq s.disk t.disk) (nat_lt s.off (t.off + t.len)) a.0 in
    let x = ltb-true s.off (t.off + t.len) b.1 in
    let y = ltb-true t.off (s.off + s.len) a.1 in
    record { sector = max s.off t.off; disk = bytes_eq_same s.disk t.disk b.0; from = omega arith; below = omega (arith, some, y); from' = omega arith; below' = omega (arith, some', x) }

covers_it : (d : Word) (x : ℕ) (s : Subdisk) → s.disk ≡ d → s.off ≤ x → x < s.off + s.len → covers d x s ≡ true
covers_it d x s same from below =
    and_from (bytes_eq s.disk d) (nat_le s.off x && nat_lt x (s.off + s.len)) (subst (λ (w : Word). bytes_eq s.disk w ≡ true) same (bytes_eq_self s.disk))
    (and_from (nat_le s.off x) (nat_lt x (s.off + s.len)) (le-leb s.off x from) (lt-ltb x (s.off + s.len) below))

module _ (started : Bool) (g : Group) (n : NewVolume) (added : List Object) (c : IsCase started g n added) where
  abbrev group : List Object
  group = objects_of g.config

  abbrev all : List Object
  all = objects_of g.config ++ added

  placed_inside : (name : Word) (p : Place) → IsIn (places c.made.plexes c.made.logs c.plan) p → outside_fault all (as_placed name p) ≡ None
  placed_inside name p there =
      let r = on_disk started g n added c p there in
      let test : Object → Bool = λ o. is_disk (λ d. bytes_eq d.name p.extent.disk && nat_le (p.extent.start + p.extent.count) d.publen) o in
      let room = any_more test group added (in_any test group (DiskRecord r.0) (disk_in g.config r.0 r.1)
      (and_from (bytes_eq r.0.name p.extent.disk) (nat_le (p.extent.start + p.extent.count) r.0.publen) (subst (λ (w : Word). bytes_eq r.0.name w ≡ true) r.2 (bytes_eq_self r.0.name)) (le-leb (p.extent.start + p.extent.count) r.0.publen r.3))) in
      unless_true _ (Outside name) (and_from (nat_lt 0 p.extent.count) _ (lt-ltb 0 p.extent.count (filled started g n added c p there)) room)

  pub inside_hold : Holds started g n added c rule.SubdisksLieInside
  unfolding fault_in fault_over
  inside_hold =
      rule_holds rule.SubdisksLieInside group added refl (λ o there. outside_more group added o (holds_in group (config_valid g.config) rule.SubdisksLieInside o there))
      (of_each (λ o. outside_fault all o ≡ None) n group c.plan added c.made refl (λ logs. refl) (λ k name lt there. refl) (λ name there. refl)
      (λ o there. let r = sub_place started g n added c o there in ap (λ (x : Object). outside_fault all x) r.3 ∙ placed_inside r.2 r.0 r.1))

  -- ---- a subdisk is the group's, or lies at a place

  abbrev IsSub : Object → Type 0
  IsSub o = (s : Subdisk) → o ≡ SubdiskRecord s → IsIn c.made.laid.objects (SubdiskRecord s)

  sub_there : (s : Subdisk) → IsIn added (SubdiskRecord s) → IsIn c.made.laid.objects (SubdiskRecord s)
  sub_there s there =
      of_each IsSub n group c.plan added c.made (λ t e. absurd cc) (λ logs t e. absurd cc) (λ k name lt here t e. absurd cc) (λ name here t e. absurd cc)
      (λ o here t e. subst (λ (x : Object). IsIn c.made.laid.objects x) e here) (SubdiskRecord s) there s refl

  own_some : (s : Subdisk) → IsIn group (SubdiskRecord s) → 0 < s.len
  own_some s there = ltb-true 0 s.len (and_parts (nat_lt 0 s.len) (has_room group s) (is_inside group s (config_valid g.config) there)).0

  -- where a new one lies
  record NewAt (s : Subdisk) : Type 0 where
    place : Place
    is_place : IsIn (places c.made.plexes c.made.logs c.plan) place
    disk : s.disk ≡ place.extent.disk
    off : s.off ≡ place.extent.start
    len : s.len ≡ place.extent.count

  new_at : (s : Subdisk) → IsIn c.made.laid.objects (SubdiskRecord s) → NewAt s
  new_at s there =
      let r = sub_place started g n added c (SubdiskRecord s) there in
      let same = same_subdisk s _ r.3 in
      record { place = r.0; is_place = r.1; disk = ap (λ (x : Subdisk). x.disk) same; off = ap (λ (x : Subdisk). x.off) same; len = ap (λ (x : Subdisk). x.len) same }

  new_some : (s : Subdisk) → IsIn c.made.laid.objects (SubdiskRecord s) → 0 < s.len
  new_some s there = let r = new_at s there in let some = filled started g n added c r.place r.is_place in let len = r.len in omega (arith, some, len)

  -- one of the group and a new one have no sector in common
  apart : (s t : Subdisk) → IsIn group (SubdiskRecord s) → IsIn c.made.laid.objects (SubdiskRecord t) → (x : ℕ) → s.disk ≡ t.disk → s.off ≤ x → x < s.off + s.len → t.off ≤ x → x < t.off + t.len → ⊥
  apart s t own new x same from below from' below' =
      let r = new_at t new in
      let off = r.off in
      let len = r.len in
      let none = none_covers started g n added c r.place r.is_place x (omega (arith, from', off)) (omega (arith, below', off, len)) in
      false≢true (sym none ∙ in_any (covers r.place.extent.disk x) g.config.subdisks s (subdisk_of g.config s own) (covers_it r.place.extent.disk x s (same ∙ r.disk) from below))

  meets_none : (s t : Subdisk) → IsIn all (SubdiskRecord s) → IsIn all (SubdiskRecord t) → comes_before t.name s.name ≡ true → shares_sector s t ≡ true → ⊥
  meets_none s t one two before shares = elim (in_either group added (SubdiskRecord s) one) [
    | inl own ↦ elim (in_either group added (SubdiskRecord t) two) [
      | inl own' ↦ both_own own own'
      | inr new ↦
          let there = sub_there t new in
          let m = meet s t (own_some s own) (new_some t there) shares in
          apart s t own there m.sector m.disk m.from m.below m.from' m.below'
    ]
    | inr new ↦
        let there = sub_there s new in
        elim (in_either group added (SubdiskRecord t) two) [
          | inl own' ↦
              let m = meet s t (new_some s there) (own_some t own') shares in
              apart t s own' there m.sector (sym m.disk) m.from' m.below' m.from m.below
          | inr new' ↦ both_new there (sub_there t new')
        ]
  ]
    where
      both_own : IsIn group (SubdiskRecord s) → IsIn group (SubdiskRecord t) → ⊥
      both_own own own' =
          let none = none_overlaps group group (own_none group (holds_over group (config_valid g.config) rule.SubdisksDoNotOverlap)) s own in
          false≢true (sym none ∙ in_any (λ o. is_subdisk (λ u. comes_before u.name s.name && shares_sector s u) o) group (SubdiskRecord t) own' (and_from (comes_before t.name s.name) (shares_sector s t) before shares))

      both_new : IsIn c.made.laid.objects (SubdiskRecord s) → IsIn c.made.laid.objects (SubdiskRecord t) → ⊥
      both_new a b =
          let m = meet s t (new_some s a) (new_some t b) shares in
          let one = count_one (λ o. is_subdisk (covers t.disk m.sector) o) c.made.laid.objects (SubdiskRecord s) (SubdiskRecord t) (covered_once started g n added c t.disk m.sector) a b (covers_it t.disk m.sector s m.disk m.from m.below) (covers_it t.disk m.sector t refl m.from' m.below') in
          false≢true (sym (before_itself t.name) ∙ subst (λ (w : Word). comes_before t.name w ≡ true) (ap name_of one) before)

  none_overlap : overlap_fault all ≡ None
  none_overlap =
      ap (λ (f : Option Word). overlap_of f)
      (none_first all all (λ s there. none_any (λ o. is_subdisk (λ t. comes_before t.name s.name && shares_sector s t) o) all (each s there)))
    where
      each : (s : Subdisk) → IsIn all (SubdiskRecord s) → (o : Object) → IsIn all o → is_subdisk (λ t. comes_before t.name s.name && shares_sector s t) o ≡ false
      each s there (SubdiskRecord t) here =
          false_from_ne_true (comes_before t.name s.name && shares_sector s t) (λ h. let parts = and_parts (comes_before t.name s.name) (shares_sector s t) h in meets_none s t there here parts.0 parts.1)
      each s there o here = refl

  pub overlap_hold : Holds started g n added c rule.SubdisksDoNotOverlap
  unfolding fault_in fault_over
  overlap_hold = rule_holds rule.SubdisksDoNotOverlap group added none_overlap (λ o there. refl) (λ o there. refl)
