-- Disks that were called, as devices of the moments before and after.
use Rattle.std.proofs.Common.{◌≡◌, ◌∙◌, ◌⊎◌, inl, inr, ℕ, ◌≤◌, Bool, true, false, List, [], ◌∷◌, ◌++◌, map, Option, Some, None, refl, sym, ap, subst, arith}
use Rattle.std.specs.Prelude.{IsTrue}
use Rattle.std.specs.Str.{bytes_eq}
use Rattle.std.proofs.lemmas.Bool.{cond-false}
use Rattle.vx_base.specs.Blocks.{Contents}
use Rattle.vx_base.specs.Named.{Word}
use Rattle.vx_base.proofs.NamedLemmas.{bytes_eq_same}
use Rattle.vx_piece.specs.Seen.{Seen, Keeps}
use Rattle.vx_copies.specs.Disks.{DiskSeen}
use Rattle.vx_copies.specs.Lists.{AllOf, AnyOf, Each}
use Rattle.vx_copies.specs.Written.{BothTell}
use Rattle.vx_moments.specs.World.{Device, Group}
use Rattle.vx_moments.specs.Moment.{Moment, AreLater}
use Rattle.vx_house.specs.Holders.{Holder, holder_in, held_as, AreApart}
use Rattle.vx_house.specs.Scene.{Shelved, Scene, seen_in, seen_at, faults_in, faults_at, count_in, AreCountsOf, counts_of, FaultsGoOn}
use Rattle.vx_house.specs.View.{IsDeviceOf}
use Rattle.vx_house.proofs.Holders.{IsLater, later_apart}
use Rattle.vx_house.proofs.AllLaws.{all_front, all_back, all_unmapped, held_each}
use Rattle.vx_copies.proofs.StepLaws.{each_refl}
use Rattle.vx_house.proofs.Lists.{each_two, each_first, each_second, each_append, each_mapped, apart_front, apart_back, held_around}

-- the device of a disk that was written to, and not read; it tells its sectors as long as it did
pub record IsCalled (a b : DiskSeen) : Type 0 where
  pub device : b.device ≡ a.device
  pub kept : Keeps a.seen b.seen
  pub reads : b.seen.reads ≡ a.seen.reads
  pub tells : BothTell (λ c d. Unit {0}) a.seen.told b.seen.told

-- a disk before and now is the device of two moments
pub record IsPair (m n : Moment) (a b : DiskSeen) : Type 0 where
  pub before : Contents
  pub now : Contents
  pub told : a.seen.told ≡ Some before
  pub tells : b.seen.told ≡ Some now
  pub was : m.world.devices a.device ≡ Some (record { sectors = a.seen.sectors; contents = before })
  pub is : n.world.devices a.device ≡ Some (record { sectors = a.seen.sectors; contents = now })
  pub faults : m.counts.faults a.device ≡ a.seen.faults
  pub faults' : n.counts.faults a.device ≡ b.seen.faults
  pub writes : m.counts.writes a.device ≡ a.seen.writes
  pub writes' : n.counts.writes a.device ≡ b.seen.writes
  pub cut' : n.counts.cut a.device ≡ b.seen.cut

-- what becomes of a device of the world that is seen so now
abbrev pub told_device : Option Contents → ℕ → Option Device → Option Device
told_device None sectors old = old
told_device (Some contents) sectors old = Some (record { sectors = sectors; contents = contents })

abbrev pub now_device : Option Seen → Option Device → Option Device
now_device None old = old
now_device (Some seen) old = told_device seen.told seen.sectors old

-- a name is none of the disks', or it is one's
abbrev pub IsOneOrNone : (DiskSeen → DiskSeen → Type 0) → Word → List DiskSeen → List DiskSeen → Type 0
IsOneOrNone F name hs bs =
    ((held_as (map holder_in hs) name ≡ None) × (held_as (map holder_in bs) name ≡ None))
    ⊎ ((a : DiskSeen) × (b : DiskSeen) × (a.device ≡ name) × F a b × AnyOf (λ h. h.device ≡ name) hs)

pub one_or_none : (F : DiskSeen → DiskSeen → Type 0) → ((a b : DiskSeen) → F a b → b.device ≡ a.device) → (name : Word) (hs bs : List DiskSeen) → Each F hs bs → IsOneOrNone F name hs bs
one_or_none F same name [] [] e = inl (refl, refl)
one_or_none F same name [] (b ∷ bs) e = absurd e
one_or_none F same name (a ∷ hs) [] e = absurd e
one_or_none F same name (a ∷ hs) (b ∷ bs) e = by_test (bytes_eq a.device name) refl (one_or_none F same name hs bs e.1)
  where
    by_test : (t : Bool) → bytes_eq a.device name ≡ t → IsOneOrNone F name hs bs → IsOneOrNone F name (a ∷ hs) (b ∷ bs)
    by_test true t rest = let here : a.device ≡ name = bytes_eq_same a.device name t in inr (a, b, here, e.0, inl here)
    by_test false t (inl none) = inl (cond-false _ _ _ t ∙ none.0, cond-false _ _ _ (ap (λ d. bytes_eq d name) (same a b e.0) ∙ t) ∙ none.1)
    by_test false t (inr (c, d, at, f, any)) = inr (c, d, at, f, inr any)

-- a device that is not lent tells what the world's has
pub own_device : (seen : Seen) (o : Option Device) → IsDeviceOf false (Some seen) o → (contents : Contents) × (seen.told ≡ Some contents) × (o ≡ Some (record { sectors = seen.sectors; contents = contents }))
own_device seen None is = absurd is
own_device seen (Some d) is = (d.contents, is.1 refl, ap (λ n. Some (let x : Device = record { sectors = n; contents = d.contents } in x)) is.0)

goes_told : (R : Contents → Contents → Type 0) (t u : Option Contents) (c : Contents) → BothTell R t u → t ≡ Some c → (d : Contents) × (u ≡ Some d)
goes_told R None u c both e = cc
goes_told R (Some x) None c both e = absurd both
goes_told R (Some x) (Some d) c both e = (d, refl)

-- the devices of the world once these disks are seen so
abbrev pub devices_now : List DiskSeen → (Word → Option Device) → Word → Option Device
devices_now bs old name = now_device (held_as (map holder_in bs) name) (old name)

-- the moment that these disks, and the others that are held, come to
abbrev pub next : Shelved → List Holder → List Holder → List DiskSeen → Moment → Option Group → Moment
next shelf vs os bs m group = record { world = record m.world { devices = devices_now bs m.world.devices; group = group }; counts = counts_of (record { shelf = shelf; taken = vs ++ (map holder_in bs ++ os) }) }

module _ (shelf : Shelved) (vs os : List Holder) (hs bs : List DiskSeen) where
  abbrev pub holders_then : List Holder
  holders_then = vs ++ (map holder_in hs ++ os)

  abbrev pub holders_now : List Holder
  holders_now = vs ++ (map holder_in bs ++ os)

  abbrev pub scene_then : Scene
  scene_then = record { shelf = shelf; taken = holders_then }

  abbrev pub scene_now : Scene
  scene_now = record { shelf = shelf; taken = holders_now }

  module _ (called : Each IsCalled hs bs) where
    -- the devices go on
    pub goes_later : Each IsLater holders_then holders_now
    goes_later =
        let self : (ks : List Holder) → Each IsLater ks ks = each_refl IsLater (λ k. record { name = refl; kept = record { device = refl; start = refl; sectors = refl; stop = refl; faults = omega arith; cut = λ c. c } }) in
        each_append IsLater vs vs (map holder_in hs ++ os) (map holder_in bs ++ os) (self vs)
        (each_append IsLater (map holder_in hs) (map holder_in bs) os os (each_mapped IsCalled IsLater holder_in (λ a b is. record { name = is.device; kept = is.kept }) hs bs called) (self os))

    module _ (apart : AreApart holders_then) where
      pub apart_now : AreApart holders_now
      apart_now = later_apart holders_then holders_now goes_later apart

      pub record IsPlaced (a b : DiskSeen) : Type 0 where
        pub goes : IsCalled a b
        pub then : held_as holders_then a.device ≡ Some a.seen
        pub now : held_as holders_now a.device ≡ Some b.seen
        pub alone : held_as (map holder_in bs) a.device ≡ Some b.seen

      pub are_placed : Each IsPlaced hs bs
      are_placed =
          let first : AllOf (λ h. held_as holders_then h.device ≡ Some h.seen) hs = all_unmapped (λ h. held_as holders_then h.name ≡ Some h.seen) holder_in hs (all_front (λ h. held_as holders_then h.name ≡ Some h.seen) (map holder_in hs) os (all_back (λ h. held_as holders_then h.name ≡ Some h.seen) vs (map holder_in hs ++ os) (held_each holders_then apart))) in
          let second : AllOf (λ h. held_as holders_now h.device ≡ Some h.seen) bs = all_unmapped (λ h. held_as holders_now h.name ≡ Some h.seen) holder_in bs (all_front (λ h. held_as holders_now h.name ≡ Some h.seen) (map holder_in bs) os (all_back (λ h. held_as holders_now h.name ≡ Some h.seen) vs (map holder_in bs ++ os) (held_each holders_now apart_now))) in
          let third : AllOf (λ h. held_as (map holder_in bs) h.device ≡ Some h.seen) bs = all_unmapped (λ h. held_as (map holder_in bs) h.name ≡ Some h.seen) holder_in bs (held_each (map holder_in bs) (apart_front (map holder_in bs) os (apart_back vs (map holder_in bs ++ os) apart_now))) in
          each_first (λ h. held_as holders_then h.device ≡ Some h.seen) (λ a b. IsCalled a b × (held_as holders_now b.device ≡ Some b.seen) × (held_as (map holder_in bs) b.device ≡ Some b.seen)) IsPlaced
          (λ a b at is. record { goes = is.0; then = at; now = ap (held_as holders_now) (sym is.0.device) ∙ is.1; alone = ap (held_as (map holder_in bs)) (sym is.0.device) ∙ is.2 }) hs bs first
          (each_second (λ h. held_as holders_now h.device ≡ Some h.seen) (λ a b. IsCalled a b × (held_as (map holder_in bs) b.device ≡ Some b.seen)) (λ a b. IsCalled a b × (held_as holders_now b.device ≡ Some b.seen) × (held_as (map holder_in bs) b.device ≡ Some b.seen)) (λ a b at is. (is.0, at, is.1)) hs bs second
          (each_second (λ h. held_as (map holder_in bs) h.device ≡ Some h.seen) IsCalled (λ a b. IsCalled a b × (held_as (map holder_in bs) b.device ≡ Some b.seen)) (λ a b at is. (is, at)) hs bs third called))

      pub at_name : (name : Word) → IsOneOrNone IsPlaced name hs bs
      at_name name = one_or_none IsPlaced (λ a b is. is.goes.device) name hs bs are_placed

      -- what is held under other names is held as before
      pub others_held : (name : Word) → held_as (map holder_in hs) name ≡ None → held_as (map holder_in bs) name ≡ None → held_as holders_now name ≡ held_as holders_then name
      others_held name p q = held_around vs (map holder_in bs) (map holder_in hs) os name q p

      pub faults_go_on : FaultsGoOn scene_then scene_now
      faults_go_on = record { devices = λ name. by name (at_name name); shelf = omega arith }
        where
          by : (name : Word) → IsOneOrNone IsPlaced name hs bs → faults_at scene_then name ≤ faults_at scene_now name
          by name (inl none) = let e : faults_at scene_now name ≡ faults_at scene_then name = ap (λ o. faults_in o (shelf.counted name)) (others_held name none.0 none.1) in omega (arith, e)
          by name (inr (a, b, at, is, any)) =
              let old : faults_at scene_then name ≡ a.seen.faults = ap (λ o. faults_in o (shelf.counted name)) (ap (held_as holders_then) (sym at) ∙ is.then) in
              let new : faults_at scene_now name ≡ b.seen.faults = ap (λ o. faults_in o (shelf.counted name)) (ap (held_as holders_now) (sym at) ∙ is.now) in
              let more = is.goes.kept.faults in omega (arith, old, new, more)

      -- over a shelf that tells its devices
      module _ (lent : Word → Bool) (m : Moment) (devices_are : (name : Word) → IsDeviceOf (lent name) (seen_at scene_then name) (m.world.devices name)) (counts_are : AreCountsOf scene_then m.counts) (own : AllOf (λ h. lent h.device ≡ false) hs) where
        module _ (group : Option Group) where
          abbrev after : Moment
          after = next shelf vs os bs m group

          one_pair : (a b : DiskSeen) → lent a.device ≡ false → IsPlaced a b → IsPair m after a b
          one_pair a b free is =
              let old : seen_at scene_then a.device ≡ Some a.seen = ap (λ o. seen_in o shelf.free a.device) is.then in
              let new : seen_at scene_now a.device ≡ Some b.seen = ap (λ o. seen_in o shelf.free a.device) is.now in
              let mine = own_device a.seen (m.world.devices a.device) (subst (λ l. IsDeviceOf l (Some a.seen) (m.world.devices a.device)) free (subst (λ o. IsDeviceOf (lent a.device) o (m.world.devices a.device)) old (devices_are a.device))) in
              let gone = goes_told (λ c d. Unit {0}) a.seen.told b.seen.told mine.0 is.goes.tells mine.1 in
              record {
                before = mine.0;
                now = gone.0;
                told = mine.1;
                tells = gone.1;
                was = mine.2;
                is = ap (λ o. now_device o (m.world.devices a.device)) is.alone ∙ ap (λ t. told_device t b.seen.sectors (m.world.devices a.device)) gone.1 ∙ ap (λ n. Some (let x : Device = record { sectors = n; contents = gone.0 } in x)) is.goes.kept.sectors;
                faults = counts_are.faults a.device ∙ ap (λ o. faults_in o (shelf.counted a.device)) is.then;
                faults' = ap (λ o. faults_in o (shelf.counted a.device)) is.now;
                writes = counts_are.writes a.device ∙ ap (count_in (λ (seen : Seen). seen.writes) 0) old;
                writes' = ap (count_in (λ (seen : Seen). seen.writes) 0) new;
                cut' = ap (count_in (λ (seen : Seen). seen.cut) false) new;
              }

          pub pairs : Each (IsPair m after) hs bs
          pairs = each_first (λ h. lent h.device ≡ false) IsPlaced (IsPair m after) one_pair hs bs own are_placed

          seen_same : (name : Word) → held_as holders_now name ≡ held_as holders_then name → seen_at scene_now name ≡ seen_at scene_then name
          seen_same name same = ap (λ o. seen_in o shelf.free name) same

          pub devices_are_now : (name : Word) → IsDeviceOf (lent name) (seen_at scene_now name) (after.world.devices name)
          devices_are_now name = by (one_or_none (λ a b. IsPair m after a b × IsPlaced a b) (λ a b is. is.1.goes.device) name hs bs (each_two (IsPair m after) IsPlaced (λ a b. IsPair m after a b × IsPlaced a b) (λ a b p q. (p, q)) hs bs pairs are_placed))
            where
              by : IsOneOrNone (λ a b. IsPair m after a b × IsPlaced a b) name hs bs → IsDeviceOf (lent name) (seen_at scene_now name) (after.world.devices name)
              by (inl none) =
                  subst (λ o. IsDeviceOf (lent name) o (after.world.devices name)) (sym (seen_same name (others_held name none.0 none.1)))
                  (subst (IsDeviceOf (lent name) (seen_at scene_then name)) (sym (ap (λ o. now_device o (m.world.devices name)) none.1)) (devices_are name))
              by (inr (a, b, at, is, any)) =
                  subst (λ x. IsDeviceOf (lent x) (seen_at scene_now x) (after.world.devices x)) at
                  (subst (λ o. IsDeviceOf (lent a.device) o (after.world.devices a.device)) (sym (ap (λ o. seen_in o shelf.free a.device) is.1.now))
                  (subst (IsDeviceOf (lent a.device) (Some b.seen)) (sym is.0.is) (sym is.1.goes.kept.sectors, λ e. is.0.tells)))

          pub reads_same : (name : Word) → after.counts.reads name ≡ m.counts.reads name
          reads_same name = by (at_name name) ∙ sym (counts_are.reads name)
            where
              by : IsOneOrNone IsPlaced name hs bs → after.counts.reads name ≡ count_in (λ (seen : Seen). seen.reads) 0 (seen_at scene_then name)
              by (inl none) = ap (count_in (λ (seen : Seen). seen.reads) 0) (seen_same name (others_held name none.0 none.1))
              by (inr (a, b, at, is, any)) =
                  subst (λ x. after.counts.reads x ≡ count_in (λ (seen : Seen). seen.reads) 0 (seen_at scene_then x)) at
                  (ap (λ o. count_in (λ (seen : Seen). seen.reads) 0 (seen_in o shelf.free a.device)) is.now ∙ is.goes.reads ∙ sym (ap (λ o. count_in (λ (seen : Seen). seen.reads) 0 (seen_in o shelf.free a.device)) is.then))

          pub shelf_same : after.counts.shelf ≡ m.counts.shelf
          shelf_same = sym counts_are.shelf

          -- a device that is none of these is as it was
          pub record IsLeft (name : Word) : Type 0 where
            pub device : after.world.devices name ≡ m.world.devices name
            pub writes : after.counts.writes name ≡ m.counts.writes name
            pub faults : after.counts.faults name ≡ m.counts.faults name
            pub cut : after.counts.cut name ≡ m.counts.cut name

          left_none : (name : Word) → held_as (map holder_in hs) name ≡ None → held_as (map holder_in bs) name ≡ None → IsLeft name
          left_none name p q =
              let same = others_held name p q in
              record {
                device = ap (λ o. now_device o (m.world.devices name)) q;
                writes = ap (count_in (λ (seen : Seen). seen.writes) 0) (seen_same name same) ∙ sym (counts_are.writes name);
                faults = ap (λ o. faults_in o (shelf.counted name)) same ∙ sym (counts_are.faults name);
                cut = ap (count_in (λ (seen : Seen). seen.cut) false) (seen_same name same) ∙ sym (counts_are.cut name);
              }

          pub left : (name : Word) → (AnyOf (λ h. h.device ≡ name) hs → ⊥) → IsLeft name
          left name none = by (at_name name)
            where
              by : IsOneOrNone IsPlaced name hs bs → IsLeft name
              by (inl (p, q)) = left_none name p q
              by (inr (a, b, at, is, any)) = absurd (none any)

          pub later : AreLater m.counts after.counts
          later = record {
            faults = λ name. let e = counts_are.faults name in let x = faults_go_on.devices name in omega (arith, e, x);
            cut = λ name. cut_by name (at_name name);
            shelf = let e = shelf_same in omega (arith, e);
          }
            where
              cut_by : (name : Word) → IsOneOrNone IsPlaced name hs bs → IsTrue (m.counts.cut name) → IsTrue (after.counts.cut name)
              cut_by name (inl (p, q)) is_cut = subst IsTrue (sym (left_none name p q).cut) is_cut
              cut_by name (inr (a, b, at, is, any)) is_cut =
                  let old : m.counts.cut name ≡ a.seen.cut = counts_are.cut name ∙ ap (λ o. count_in (λ (seen : Seen). seen.cut) false (seen_in o shelf.free name)) (ap (held_as holders_then) (sym at) ∙ is.then) in
                  let new : after.counts.cut name ≡ b.seen.cut = ap (λ o. count_in (λ (seen : Seen). seen.cut) false (seen_in o shelf.free name)) (ap (held_as holders_now) (sym at) ∙ is.now) in
                  subst IsTrue (sym new) (is.goes.kept.cut (subst IsTrue old is_cut))
