-- A device is taken from the shelf and read, and then kept or given back.
use Rattle.std.proofs.Common.{◌≡◌, ◌∙◌, ◌≤◌, List, ◌∷◌, ◌++◌, Some, None, refl, sym, ap, arith}
use Rattle.std.specs.Prelude.{IsSome}
use Rattle.std.specs.Str.{bytes_eq}
use Rattle.std.proofs.lemmas.Bool.{cond-true}
use Rattle.vx_base.specs.Counts.{Rose}
use Rattle.vx_base.specs.Named.{Word}
use Rattle.vx_base.proofs.NamedLemmas.{bytes_eq_self}
use Rattle.vx_piece.specs.Seen.{Seen, Keeps, IsRead}
use Rattle.vx_house.specs.Holders.{Holder, held_as, AreHeld}
use Rattle.vx_house.specs.Scene.{Shelved, seen_in, seen_at, faults_in, faults_at}
use Rattle.vx_house.specs.Unmoved.{Unmoved}
use Rattle.vx_house.proofs.Holders.{take_one, give_one, later_held, held_at, none_of, apart_here}
use Rattle.vx_house.proofs.Scenes.{scene_of, IsHanded, take_scene, give_scene}
use Rattle.vx_house.specs.Reading.{OnlyRead, IsReturned}
use Rattle.vx_house.proofs.Readings.{only_trans, only_unmoved, only_each, each_one, each_later, IsReadOn}
use Rattle.vx_house.proofs.Steps.{IsStep}

module _ (old mid : Shelved) (xs ys : List Holder) (name : Word) (seen after : Seen) (are : AreHeld old.held (xs ++ ys)) (handed : IsHanded name seen old mid) (kept : Keeps seen after) (same : IsRead seen after) where
  abbrev pub before : Holder
  before = record { name = name; seen = seen }

  abbrev pub now : Holder
  now = record { name = name; seen = after }

  held_first : AreHeld mid.held (xs ++ before ∷ ys)
  held_first = take_one old.held mid.held xs before ys handed.numbers handed.taken are

  moved_first : Unmoved (scene_of old (xs ++ ys)) (scene_of mid (xs ++ before ∷ ys))
  moved_first = take_scene old mid xs before ys held_first.apart handed

  was_read : IsStep IsReadOn before now
  was_read = record { name = refl; goes = record { kept = kept; same = same } }

  -- it is kept
  pub held_now : AreHeld mid.held (xs ++ now ∷ ys)
  held_now = later_held mid.held (xs ++ before ∷ ys) (xs ++ now ∷ ys) (each_later (xs ++ before ∷ ys) (xs ++ now ∷ ys) (each_one xs before now ys was_read)) held_first

  pub read_now : OnlyRead (scene_of old (xs ++ ys)) (scene_of mid (xs ++ now ∷ ys))
  read_now =
      only_trans (scene_of old (xs ++ ys)) (scene_of mid (xs ++ before ∷ ys)) (scene_of mid (xs ++ now ∷ ys))
      (only_unmoved (scene_of old (xs ++ ys)) (scene_of mid (xs ++ before ∷ ys)) moved_first)
      (only_each mid (xs ++ before ∷ ys) (xs ++ now ∷ ys) (each_one xs before now ys was_read))

  -- nobody had it
  pub not_held : held_as (xs ++ ys) name ≡ None
  not_held = none_of before (xs ++ ys) (apart_here xs before ys held_first.apart)

  seen_one : (h : Holder) → h.name ≡ name → AreHeld mid.held (xs ++ h ∷ ys) → seen_at (scene_of mid (xs ++ h ∷ ys)) name ≡ Some h.seen
  seen_one h e are = ap (λ o. seen_in o mid.free name) (held_at xs h ys name are.apart ∙ cond-true _ _ _ (ap (λ n. bytes_eq n name) e ∙ bytes_eq_self name))

  -- what was told of it
  pub was_told : IsSome old.free → seen_at (scene_of old (xs ++ ys)) name ≡ Some seen
  was_told told = sym (moved_first.seen told name) ∙ seen_one before refl held_first

  pub is_told : seen_at (scene_of mid (xs ++ now ∷ ys)) name ≡ Some after
  is_told = seen_one now refl held_now

  pub faults_told : faults_at (scene_of old (xs ++ ys)) name ≤ seen.faults
  faults_told = let e : faults_at (scene_of old (xs ++ ys)) name ≡ old.counted name = ap (λ o. faults_in o (old.counted name)) not_held in let up = handed.counted in omega (arith, e, up)

  -- it is given back
  module _ (new : Shelved) (back : IsReturned name after mid new) where
    moved_back : Unmoved (scene_of mid (xs ++ now ∷ ys)) (scene_of new (xs ++ ys))
    moved_back = give_scene mid new xs now ys held_now.apart back.back back.quiet back.counts

    pub held_back : AreHeld new.held (xs ++ ys)
    held_back = give_one mid.held new.held xs now ys back.given held_now

    pub read_back : OnlyRead (scene_of old (xs ++ ys)) (scene_of new (xs ++ ys))
    read_back =
        only_trans (scene_of old (xs ++ ys)) (scene_of mid (xs ++ now ∷ ys)) (scene_of new (xs ++ ys)) read_now
        (only_unmoved (scene_of mid (xs ++ now ∷ ys)) (scene_of new (xs ++ ys)) moved_back)

    pub told_back : IsSome old.free → seen_at (scene_of new (xs ++ ys)) name ≡ Some after
    told_back told = moved_back.seen (read_now.told told) name ∙ is_told

    faults_back : faults_at (scene_of new (xs ++ ys)) name ≡ after.faults
    faults_back = ap (λ o. faults_in o (new.counted name)) not_held ∙ back.counts name ∙ cond-true _ _ _ (bytes_eq_self name)

    pub rose_back : Rose seen.faults after.faults → Rose (faults_at (scene_of old (xs ++ ys)) name) (faults_at (scene_of new (xs ++ ys)) name)
    rose_back rose = omega (arith, rose, faults_told, faults_back)
