-- The volumes of a group are laid down: its devices are what they were.
use Rattle.std.proofs.Common.{◌≡◌, ◌∙◌, ℕ, List, [], ◌∷◌, ◌++◌, map, Option, Some, None, refl, sym, ap, subst}
use Rattle.std.specs.Prelude.{is_some}
use Rattle.std.proofs.lemmas.List.{append-nil}
use Rattle.vx_pages.specs.declared.local_piece.LocalPiece.{Ghosts}
use Rattle.vx_piece.specs.Seen.{Seen}
use Rattle.std.specs.List.{All}
use Rattle.vx_carve.specs.Together.{HasSome, SameSectors}
use Rattle.vx_copies.specs.Disks.{DiskSeen}
use Rattle.vx_confdb.specs.Groups.{members}
use Rattle.vx_fronts.specs.Fronts.{Rest, Rests, with_device}
use Rattle.vx_fronts.specs.Laws.{whole_disks}
use Rattle.vx_fronts.specs.Parted.{AreParted, fronts_of}
use Rattle.vx_fronts.specs.Rests.{bare, rests_of, untold}
use Rattle.vx_fronts.proofs.Behind.{rests_counted, rests_stay}
use Rattle.vx_fronts.proofs.Joined.{parts_once}
use Rattle.vx_fronts.proofs.Parted.{parted_once, parted_stay}
use Rattle.vx_lending.specs.Public.{lent_pieces, still_pieces}
use Rattle.vx_house.specs.Holders.{group_holders, holder_in}
use Rattle.vx_house.specs.View.{IsGroupParted}
use Rattle.vx_house.specs.declared.house.Imported.{Imported}
use Rattle.vx_house.proofs.Joined.{same_whole}

-- a disk, but for what is told of it, goes by its rest but for what that holds
untold_by : (o n : Option Rest) (h : DiskSeen) → bare n ≡ bare o → untold (with_device n h) ≡ untold (with_device o h)
untold_by o n h same = step n ∙ ap (λ x. untold (with_device x h)) same ∙ sym (step o)
  where
    step : (x : Option Rest) → untold (with_device x h) ≡ untold (with_device (bare x) h)
    step None = refl
    step (Some r) = refl

untold_each : (rests rests' : Rests) → ((device : ℕ) → bare (rests' device) ≡ bare (rests device)) → (hs : List DiskSeen) → map untold (whole_disks rests' hs) ≡ map untold (whole_disks rests hs)
untold_each rests rests' same [] = refl
untold_each rests rests' same (h ∷ hs) = λ i. untold_by (rests h.seen.device) (rests' h.seen.device) h (same h.seen.device) i ∷ untold_each rests rests' same hs i

module _ {P : Type 0} {ghosts : Ghosts P} (see : P → Seen) (alike : (p q : P) → is_some (see p).told ≡ is_some (see q).told) (old new : Imported P ghosts) (base : new.base ≡ old.base)
    (parted : IsGroupParted see old) (together : SameSectors (still_pieces see old.public ++ lent_pieces see old.public) (still_pieces see new.public ++ lent_pieces see new.public)) where
  abbrev hs : List DiskSeen
  hs = members see old.base

  abbrev behind : List Seen
  behind = still_pieces see old.public ++ lent_pieces see old.public

  abbrev behind' : List Seen
  behind' = still_pieces see new.public ++ lent_pieces see new.public

  pub parted_laid : IsGroupParted see new
  parted_laid = subst (λ b. AreParted (members see b) behind') (sym base) (parted_stay hs behind behind' together parted)

  pub holders_laid : group_holders see (Some new) ≡ group_holders see (Some old)
  holders_laid =
      ap (λ b. map holder_in (whole_disks (rests_of behind' []) (members see b))) base
      ∙ ap (map holder_in) (same_whole see alike (rests_of behind []) (rests_of behind' []) old.base.disks.items old.base.disks.items
      (untold_each (rests_of behind []) (rests_of behind' []) (rests_counted behind behind' [] (subst (All HasSome) (sym (append-nil behind)) parted.some) together) hs)
      (λ tells. ap (λ r. whole_disks r hs) (rests_stay behind behind' [] (subst (All HasSome) (sym (append-nil behind)) parted.some) (parts_once (fronts_of hs) behind (parted_once hs behind parted)).1 (parted.tell tells) together)))
