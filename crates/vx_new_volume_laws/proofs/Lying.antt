-- Where the subdisks of a new volume lie: in free sectors, each in one of them at most.
use Rattle.std.proofs.Common.{◌≡◌, ℕ, ◌+◌, ◌-◌, ◌<◌, ◌≤◌, min, nat_le, nat_lt, Bool, true, false, cond, not, ◌&&◌, List, [], ◌∷◌, ◌++◌, length, map, refl, sym, ap, ◌∙◌, subst, inl, inr, arith}
use Rattle.std.specs.List.{count_by, list_any}
use Rattle.std.specs.Str.{bytes_eq}
use Rattle.std.proofs.lemmas.Bool.{and_from, and_parts, le-leb, lt-ltb, ltb-true, not-true}
use Rattle.std.proofs.lemmas.List.{map-append}
use Rattle.vx_base.specs.Named.{Word}
use Rattle.vx_base.proofs.NamedLemmas.{bytes_eq_self, bytes_eq_same}
use Rattle.vx_config_parts.specs.declared.disk.Disk.{Disk}
use Rattle.vx_config_parts.specs.declared.object.Object.{Object}
use Rattle.vx_config_parts.specs.Objects.{is_subdisk}
use Rattle.vx_rules.proofs.ListTests.{count_more}
use Rattle.vx_objects.specs.Config.{objects_of}
use Rattle.vx_image.proofs.PlexMembers.{IsIn, any_in, count_some, in_map}
use Rattle.vx_space.specs.declared.extent.Extent.{Extent}
use Rattle.vx_space.specs.Disks.{is_good}
use Rattle.vx_space.specs.Extents.{has_sector}
use Rattle.vx_space.specs.Free.{AreFree, covers, has_public, is_free}
use Rattle.vx_new_volumes.specs.declared.parts.Plan.{Plan}
use Rattle.vx_new_volumes.specs.declared.volume.NewVolume.{NewVolume}
use Rattle.vx_moments.specs.World.{Group}
use Rattle.vx_stages.specs.Sources.{IsLaid}
use Rattle.vx_new_volume_laws.proofs.Parts.{IsMade, made_of}
use Rattle.vx_new_volume_laws.proofs.Passed.{Passed, passed}
use Rattle.vx_new_volume_laws.proofs.Names.{logs_found, plexes_found, subdisks_found}
use Rattle.vx_new_volume_laws.proofs.Places.{Place, column_places, columns_places, logs_places, places, plexes_places}
use Rattle.vx_new_volume_laws.proofs.Placed.{ArePlaced, as_placed}
use Rattle.vx_new_volume_laws.proofs.Hits.{hits, hits_one}
use Rattle.vx_new_volume_laws.proofs.Frees.{hit_listed, hits_once}
use Rattle.vx_new_volume_laws.proofs.Low.{free_low, length_low}
use Rattle.vx_new_volume_laws.proofs.Plans.{Plans, flat, rule_plans}

-- ---- the extents at the places are those of the plan

abbrev pub extents_at : List Place → List Extent
extents_at ps = map (λ p. p.extent) ps

column_extents : (plex : Word) (col at : ℕ) (es : List Extent) → extents_at (column_places plex col at es) ≡ es
column_extents plex col at [] = refl
column_extents plex col at (e ∷ es) = ap (λ (l : List Extent). e ∷ l) (column_extents plex col (min (at + e.count) 18446744073709551615) es)

columns_extents : (plex : Word) (col : ℕ) (cs : List (List Extent)) → extents_at (columns_places plex col cs) ≡ flat (λ es. es) cs
columns_extents plex col [] = refl
columns_extents plex col (c ∷ cs) =
    map-append (λ (p : Place). p.extent) (column_places plex col 0 c) (columns_places plex (min (col + 1) 4294967295) cs)
    ∙ (λ i. column_extents plex col 0 c i ++ columns_extents plex (min (col + 1) 4294967295) cs i)

plexes_extents : (names : List Word) (ps : List (List (List Extent))) → length names ≡ length ps → extents_at (plexes_places names ps) ≡ flat (flat (λ es. es)) ps
plexes_extents [] [] e = refl
plexes_extents [] (p ∷ ps) e = absurd (omega (arith, e))
plexes_extents (name ∷ names) [] e = absurd (omega (arith, e))
plexes_extents (name ∷ names) (p ∷ ps) e =
    map-append (λ (p : Place). p.extent) (columns_places name 0 p) (plexes_places names ps)
    ∙ (λ i. columns_extents name 0 p i ++ plexes_extents names ps (omega (arith, e)) i)

logs_extents : (names : List Word) (ls : List (List Extent)) → length names ≡ length ls → extents_at (logs_places names ls) ≡ flat (λ es. es) ls
logs_extents [] [] e = refl
logs_extents [] (l ∷ ls) e = absurd (omega (arith, e))
logs_extents (name ∷ names) [] e = absurd (omega (arith, e))
logs_extents (name ∷ names) (l ∷ ls) e =
    map-append (λ (p : Place). p.extent) (column_places name 0 0 l) (logs_places names ls)
    ∙ (λ i. column_extents name 0 0 l i ++ logs_extents names ls (omega (arith, e)) i)

-- ---- the subdisks at the places

placed_count : (d : Word) (x : ℕ) (ps : List Place) (os : List Object) → ArePlaced ps os → count_by (λ o. is_subdisk (covers d x) o) os ≡ hits d x (extents_at ps)
placed_count d x [] [] h = refl
placed_count d x [] (o ∷ os) h = absurd h
placed_count d x (p ∷ ps) [] h = absurd h
placed_count d x (p ∷ ps) (o ∷ os) h =
    count_more (λ o. is_subdisk (covers d x) o) o os
    ∙ (λ i. cond (is_subdisk (covers d x) (h.0.1 i)) 1 0 + placed_count d x ps os h.1 i)
    ∙ sym (hits_one d x p.extent (extents_at ps))

pub placed_in : (ps : List Place) (os : List Object) (o : Object) → ArePlaced ps os → IsIn os o → (p : Place) × IsIn ps p × (name : Word) × (o ≡ as_placed name p)
placed_in [] [] o h there = absurd there
placed_in [] (x ∷ os) o h there = absurd h
placed_in (p ∷ ps) [] o h there = absurd h
placed_in (p ∷ ps) (x ∷ os) o h (inl same) = (p, inl refl, h.0.0, same ∙ h.0.1)
placed_in (p ∷ ps) (x ∷ os) o h (inr there) = let r = placed_in ps os o h.1 there in (r.0, inr r.1, r.2, r.3)

-- ---- what is known of a new volume

pub record IsCase (started : Bool) (g : Group) (n : NewVolume) (added : List Object) : Type 0 where
  pub plan : Plan
  pub made : IsMade (objects_of g.config) n plan added
  pub passed : Passed started (objects_of g.config) n
  pub free : List Extent
  pub are_free : AreFree g.config g.good free
  pub plans : Plans n.request free plan

pub case_of : (is_started : Word → Bool) (g : Group) (n : NewVolume) (added : List Object) → IsLaid is_started g n added → IsCase (is_started n.vol) g n added
case_of is_started g n added laid = record {
  plan = laid.plan;
  made = made_of (objects_of g.config) n laid.plan added laid.records;
  passed = passed (is_started n.vol) (objects_of g.config) n laid.tested;
  free = laid.planned.free;
  are_free = laid.planned.are_free;
  plans = rule_plans n.request (length_low n.request.length n.request.region (passed (is_started n.vol) (objects_of g.config) n laid.tested).geometry) laid.planned.disks laid.planned.free laid.plan laid.planned.are_good.order (free_low g.config g.good laid.planned.free laid.planned.are_free) laid.planned.is;
}

module _ (started : Bool) (g : Group) (n : NewVolume) (added : List Object) (c : IsCase started g n added) where
  abbrev at : List Place
  at = places c.made.plexes c.made.logs c.plan

  pub placed : ArePlaced (places c.made.plexes c.made.logs c.plan) c.made.laid.objects
  placed =
      let r = subdisks_found (objects_of g.config) n c.plan added c.made in
      subst (ArePlaced at) (sym r.are) r.placed

  planned : extents_at at ≡ flat (flat (λ es. es)) c.plan.plexes ++ flat (λ es. es) c.plan.logs
  planned =
      map-append (λ (p : Place). p.extent) (plexes_places c.made.plexes c.plan.plexes) (logs_places c.made.logs c.plan.logs)
      ∙ (λ i. plexes_extents c.made.plexes c.plan.plexes (plexes_found (objects_of g.config) n c.plan added c.made).count i ++ logs_extents c.made.logs c.plan.logs (logs_found (objects_of g.config) n c.plan added c.made).count i)

  some_free : (d : Word) (x : ℕ) → hits d x (extents_at at) ≤ hits d x c.free
  some_free d x = let sum = c.plans.splits.sectors d x in let same = ap (λ (es : List Extent). hits d x es) planned in omega (arith, sum, same)

  -- no sector is in two of the subdisks
  pub covered_once : (d : Word) (x : ℕ) → count_by (λ o. is_subdisk (covers d x) o) c.made.laid.objects ≤ 1
  covered_once d x =
      let same = placed_count d x at c.made.laid.objects placed in
      let few = hits_once d x c.free c.are_free.order in
      let some = some_free d x in
      omega (arith, same, few, some)

  module _ (p : Place) (there : IsIn (places c.made.plexes c.made.logs c.plan) p) where
    in_plan : IsIn (flat (flat (λ es. es)) c.plan.plexes ++ flat (λ es. es) c.plan.logs) p.extent
    in_plan = subst (λ (es : List Extent). IsIn es p.extent) planned (in_map (λ (p : Place). p.extent) at p there)

    -- it has a sector
    pub filled : 0 < p.extent.count
    filled = c.plans.splits.filled p.extent in_plan

    -- its sectors are free
    pub sectors_free : (x : ℕ) → p.extent.start ≤ x → x < p.extent.start + p.extent.count → is_free g.config g.good p.extent.disk x ≡ true
    sectors_free x from below =
        let has : has_sector p.extent.disk x p.extent ≡ true = and_from (bytes_eq p.extent.disk p.extent.disk) (nat_le p.extent.start x && nat_lt x (p.extent.start + p.extent.count)) (bytes_eq_self p.extent.disk) (and_from (nat_le p.extent.start x) (nat_lt x (p.extent.start + p.extent.count)) (le-leb p.extent.start x from) (lt-ltb x (p.extent.start + p.extent.count) below)) in
        let some = count_some (has_sector p.extent.disk x) (extents_at at) p.extent (in_map (λ (p : Place). p.extent) at p there) has in
        let more = some_free p.extent.disk x in
        sym (c.are_free.sectors p.extent.disk x) ∙ hit_listed p.extent.disk x c.free (omega (arith, some, more))

    free_parts : (x : ℕ) → p.extent.start ≤ x → x < p.extent.start + p.extent.count → (list_any (λ d. is_good g.good d && has_public p.extent.disk x d) g.config.disks ≡ true) × (not (list_any (covers p.extent.disk x) g.config.subdisks) ≡ true)
    free_parts x from below = and_parts (list_any (λ d. is_good g.good d && has_public p.extent.disk x d) g.config.disks) (not (list_any (covers p.extent.disk x) g.config.subdisks)) (sectors_free x from below)

    -- no subdisk of the group has one of them
    pub none_covers : (x : ℕ) → p.extent.start ≤ x → x < p.extent.start + p.extent.count → list_any (covers p.extent.disk x) g.config.subdisks ≡ false
    none_covers x from below = not-true (list_any (covers p.extent.disk x) g.config.subdisks) (free_parts x from below).1

    -- its disk is there, and reaches to its end
    pub on_disk : (d : Disk) × IsIn g.config.disks d × (d.name ≡ p.extent.disk) × (p.extent.start + p.extent.count ≤ d.publen)
    on_disk =
        let some = filled in
        let parts = free_parts (p.extent.start + p.extent.count - 1) (omega (arith, some)) (omega (arith, some)) in
        let r = any_in (λ d. is_good g.good d && has_public p.extent.disk (p.extent.start + p.extent.count - 1) d) g.config.disks parts.0 in
        let public = (and_parts (is_good g.good r.0) (has_public p.extent.disk (p.extent.start + p.extent.count - 1) r.0) r.2).1 in
        let both = and_parts (bytes_eq r.0.name p.extent.disk) (nat_lt (p.extent.start + p.extent.count - 1) r.0.publen) public in
        let below = ltb-true (p.extent.start + p.extent.count - 1) r.0.publen both.1 in
        (r.0, r.1, bytes_eq_same r.0.name p.extent.disk both.0, omega (arith, below, some))
