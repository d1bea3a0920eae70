-- A commit writes to the private regions of disks alone.
use Rattle.std.proofs.Common.{◌≡◌, ◌∙◌, ◌⊎◌, ℕ, ◌+◌, ◌*◌, ◌-◌, ◌≤◌, ◌<◌, ◌==◌, Bool, true, false, List, [], ◌∷◌, ◌++◌, length, refl, sym, ap, subst, inl, inr, arith, length-append}
use Rattle.std.specs.Prelude.{if◌then◌else◌}
use Rattle.std.specs.Str.{bytes_eq}
use Rattle.std.proofs.lemmas.List.{append-nil, length-replicate}
use Rattle.vx_base.specs.Blocks.{Contents, blocks_in, written}
use Rattle.vx_base.specs.Named.{Word}
use Rattle.vx_base.proofs.BlockLemmas.{is_in-after, written_out}
use Rattle.vx_base.proofs.NamedLemmas.{bytes_eq_self, name_cases}
use Rattle.vx_mask.specs.Mask.{has}
use Rattle.vx_mask.proofs.Tests.{true_or_false}
use Rattle.vx_config_parts.specs.declared.vol.Vol.{Vol}
use Rattle.vx_copies.specs.Image.{filled, half_start, sectors_for}
use Rattle.vx_sector.specs.Fields.{zeros}
use Rattle.vx_copies.specs.Lists.{AllOf, AnyOf}
use Rattle.vx_copies.proofs.Halves.{few_sectors}
use Rattle.vx_copies.specs.Written.{OldOrText, in_both}
use Rattle.vx_image.specs.Bytes.{image_of}
use Rattle.vx_moments.specs.Commit.{IsCommitting, MemberGoes, Writing}
use Rattle.vx_moments.specs.Moment.{Moment}
use Rattle.vx_moments.specs.World.{Group, Member}
use Rattle.vx_moments.specs.Group.{image_on, public_of, sectors_of}
use Rattle.vx_group_volumes.specs.CommitLaws.{EachCommitKeepsImages, EachCommitKeepsPublic}

-- ---- one disk

few : (text : List ℕ) → length text ≤ 522240 → blocks_in (filled text) ≤ 1020
unfolding zeros
few text short =
    let long = length-append text (zeros (512 * sectors_for (length text) - length text)) in
    let more = length-replicate {A = ℕ} (512 * sectors_for (length text) - length text) 0 in
    let sectors = few_sectors (length text) short in
    omega (arith, long, more, sectors, short)

-- a text in a half is written before the public region
behind : (half : ℕ) → half < 2 → (text : List ℕ) → length text ≤ 522240 → (old : Contents) (k : ℕ) → written (half_start half) (filled text) old (2048 + k) ≡ old (2048 + k)
behind half low text short old k = written_out (half_start half) (filled text) old (2048 + k) (is_in-after (half_start half) (blocks_in (filled text)) (2048 + k) (let n = few text short in omega (arith, n, low)))

text_behind : (text : List ℕ) → length text ≤ 522240 → (old : Contents) (k : ℕ) → in_both text old (2048 + k) ≡ old (2048 + k)
text_behind text short old k = behind 1 (omega arith) text short (written (half_start 0) (filled text) old) k ∙ behind 0 (omega arith) text short old k

same_behind : (text : List ℕ) → length text ≤ 522240 → (old new : Contents) → OldOrText text old new → (k : ℕ) → new (2048 + k) ≡ old (2048 + k)
same_behind text short old new only k = by (only (2048 + k) (λ e. absurd (omega (arith, e))))
  where
    by : (new (2048 + k) ≡ old (2048 + k)) ⊎ (new (2048 + k) ≡ in_both text old (2048 + k)) → new (2048 + k) ≡ old (2048 + k)
    by (inl same) = same
    by (inr is) = is ∙ text_behind text short old k

-- ---- all of them

-- one of the members has the device, and of it this holds; or none has
member_case : (Q : Member → Type 0) (ms : List Member) (name : Word) → AllOf Q ms → ((m : Member) × (m.device ≡ name) × Q m) ⊎ (AnyOf (λ m. m.device ≡ name) ms → ⊥)
member_case Q [] name all = inr (λ any. any)
member_case Q (m ∷ ms) name all = by (name_cases m.device name) (member_case Q ms name all.1)
  where
    by : (m.device ≡ name) ⊎ (bytes_eq m.device name ≡ false) → ((m : Member) × (m.device ≡ name) × Q m) ⊎ (AnyOf (λ m. m.device ≡ name) ms → ⊥) → ((m : Member) × (m.device ≡ name) × Q m) ⊎ (AnyOf (λ m. m.device ≡ name) (m ∷ ms) → ⊥)
    by (inl is) rest = inl (m, is, all.0)
    by (inr other) (inl one) = inl one
    by (inr other) (inr none) = inr (λ any. elim any [ inl is ↦ other_name is | inr more ↦ none more ])
      where
        other_name : m.device ≡ name → ⊥
        other_name is = let no : true ≡ false = sym (ap (λ n. bytes_eq n name) is ∙ bytes_eq_self name) ∙ other in cc

module _ (x : Writing) (last : ℕ) (old new : Moment) (is : IsCommitting x last old new) (none : x.joiners ≡ []) where
  member_same : (m : Member) → MemberGoes x last old new m → (k : ℕ) → public_of (new.world.devices m.device) k ≡ public_of (old.world.devices m.device) k
  member_same m goes k = elim (true_or_false (has x.group.good m.slot)) [
    | inl good ↦ (
        let d = goes.good good in
        ap (λ o. public_of o k) d.is ∙ same_behind x.text is.short d.before.contents d.after.contents d.goes.only k ∙ ap (λ o. public_of o k) (sym d.was))
    | inr bad ↦ ap (λ o. public_of o k) (goes.idle bad)
  ]

  pub public_same : (name : Word) (k : ℕ) → public_of (new.world.devices name) k ≡ public_of (old.world.devices name) k
  public_same name k = by (member_case (MemberGoes x last old new) x.group.members name is.members)
    where
      by : ((m : Member) × (m.device ≡ name) × MemberGoes x last old new m) ⊎ (AnyOf (λ m. m.device ≡ name) x.group.members → ⊥) → public_of (new.world.devices name) k ≡ public_of (old.world.devices name) k
      by (inl one) = subst (λ n. public_of (new.world.devices n) k ≡ public_of (old.world.devices n) k) one.1 (member_same one.0 one.2 k)
      by (inr away) = ap (λ o. public_of o k) (is.others name
          (λ any. away (subst (AnyOf (λ m. m.device ≡ name)) (ap (λ js. x.group.members ++ js) none ∙ append-nil x.group.members) any)))

  sectors_same : (ms : List Member) (slot k : ℕ) → sectors_of new.world.devices ms slot k ≡ sectors_of old.world.devices ms slot k
  sectors_same [] slot k = refl
  sectors_same (m ∷ ms) slot k = by (m.slot == slot) (sectors_same ms slot k)
    where
      by : (b : Bool) → sectors_of new.world.devices ms slot k ≡ sectors_of old.world.devices ms slot k →
          (if b then public_of (new.world.devices m.device) else sectors_of new.world.devices ms slot) k ≡ (if b then public_of (old.world.devices m.device) else sectors_of old.world.devices ms slot) k
      by true rest = public_same m.device k
      by false rest = rest

  pub images_same : (g : Group) (v : Vol) → image_on new.world.devices g v ≡ image_on old.world.devices g v
  images_same g v = ap (λ bytes. image_of g.config g.good bytes v) (λ i slot k. sectors_same g.members slot k i)

pub commit_keeps_public : EachCommitKeepsPublic
commit_keeps_public = public_same

pub commit_keeps_images : EachCommitKeepsImages
commit_keeps_images = images_same
