-- What the group's leaving keeps: a volume on a whole device is there as before.
use Rattle.std.proofs.Common.{◌≡◌, Option, Some, None, refl, ◌∙◌, ap}
use Rattle.vx_base.specs.Named.{Word}
use Rattle.vx_moments.specs.World.{World, Volume, Lies, OnDevice, OnPlexes}
use Rattle.vx_moments.specs.Holding.{IsLent, HasDevice}
use Rattle.vx_moments.specs.Leaving.{group_gone, lone, lone_by, grouped, grouped_by}

-- a volume that is there without the group was there
pub lone_was : (o : Option Volume) (v : Volume) → lone o ≡ Some v → o ≡ Some v
lone_was None v is = cc
lone_was (Some u) v is = by u.lies is
  where
    by : (lies : Lies) → lone_by lies u ≡ Some v → Some u ≡ Some v
    by (OnDevice device) is = is
    by (OnPlexes plexes) is = cc

-- one that has a whole device is there without the group
pub lone_stays : (o : Option Volume) (v : Volume) (name : Word) → o ≡ Some v → HasDevice v.lies name → lone o ≡ Some v
lone_stays o v name is has = ap lone is ∙ by v.lies has
  where
    by : (lies : Lies) → HasDevice lies name → lone_by lies v ≡ Some v
    by (OnDevice device) has = refl
    by (OnPlexes plexes) has = absurd has

pub none_lone : (o : Option Volume) → o ≡ None → lone o ≡ None
none_lone o is = ap lone is

-- the same devices are lent
pub lent_was : (w : World) (name : Word) → IsLent (group_gone w) name → IsLent w name
lent_was w name (vol, v, is, has) = (vol, v, lone_was (w.volumes vol) v is, has)

pub lent_still : (w : World) (name : Word) → IsLent w name → IsLent (group_gone w) name
lent_still w name (vol, v, is, has) = (vol, v, lone_stays (w.volumes vol) v name is has, has)

-- the group leaves once
pub lone_twice : (o : Option Volume) → lone (lone o) ≡ lone o
lone_twice None = refl
lone_twice (Some v) = by v.lies refl
  where
    by : (lies : Lies) → v.lies ≡ lies → lone (lone_by lies v) ≡ lone_by lies v
    by (OnDevice device) is = ap (λ l. lone_by l v) is
    by (OnPlexes plexes) is = refl

-- none lies on its plexes then
pub lone_grouped : (o : Option Volume) → grouped (lone o) ≡ None
lone_grouped None = refl
lone_grouped (Some v) = by v.lies refl
  where
    by : (lies : Lies) → v.lies ≡ lies → grouped (lone_by lies v) ≡ None
    by (OnDevice device) is = ap (λ l. grouped_by l v) is
    by (OnPlexes plexes) is = refl

-- what does not lie on its plexes is there without it
pub lone_all : (o : Option Volume) → grouped o ≡ None → lone o ≡ o
lone_all None none = refl
lone_all (Some v) none = by v.lies none
  where
    by : (lies : Lies) → grouped_by lies v ≡ None → lone_by lies v ≡ Some v
    by (OnDevice device) none = refl
    by (OnPlexes plexes) none = cc

-- a volume on a whole device does not lie on plexes
pub lone_on : (v : Volume) (device : Word) → v.lies ≡ OnDevice device → lone (Some v) ≡ Some v
lone_on v device is = ap (λ l. lone_by l v) is

pub grouped_on : (v : Volume) (device : Word) → v.lies ≡ OnDevice device → grouped (Some v) ≡ None
grouped_on v device is = ap (λ l. grouped_by l v) is
