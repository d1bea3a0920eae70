-- What entries and failures leave of a started volume.
use Rattle.std.proofs.Common.{◌≡◌, List, [], ◌∷◌, refl}
use Rattle.vx_base.specs.Named.{Word}
use Rattle.vx_life.specs.Entry.{Entry}
use Rattle.vx_moments.specs.World.{Volume}
use Rattle.vx_moments.specs.Tracks.{TrackOwner, volume_after, volume_goes}

-- entries change tracks and dirty regions alone
module _ (owners : Word → TrackOwner) where
  pub goes_lies : (es : List Entry) (v : Volume) → (volume_goes owners es v).lies ≡ v.lies
  goes_lies [] v = refl
  goes_lies (e ∷ es) v = goes_lies es (volume_after owners e v)

  pub goes_length : (es : List Entry) (v : Volume) → (volume_goes owners es v).length ≡ v.length
  goes_length [] v = refl
  goes_length (e ∷ es) v = goes_length es (volume_after owners e v)

  pub goes_region : (es : List Entry) (v : Volume) → (volume_goes owners es v).region ≡ v.region
  goes_region [] v = refl
  goes_region (e ∷ es) v = goes_region es (volume_after owners e v)

  pub goes_sound : (es : List Entry) (v : Volume) → (volume_goes owners es v).sound ≡ v.sound
  goes_sound [] v = refl
  goes_sound (e ∷ es) v = goes_sound es (volume_after owners e v)
