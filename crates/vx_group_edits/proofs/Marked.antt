-- A plex that every copy of the log marks everywhere leaves an image as sound as it was.
use Rattle.std.proofs.Common.{◌≡◌, ◌∙◌, ℕ, Bool, true, List, [], ◌∷◌, ◌++◌, sym, ap, inl, inr}
use Rattle.std.specs.Prelude.{◌⊎◌, Contains}
use Rattle.std.proofs.lemmas.Bool.{false≢true}
use Rattle.vx_config_parts.specs.declared.state.VolState.{VolState}
use Rattle.vx_config_parts.specs.declared.state.VolState.TheVariants as vol
use Rattle.vx_image.proofs.PlexMembers.{IsIn, in_either, in_left}
use Rattle.vx_image.proofs.Members.{contains, is_in}
use Rattle.vx_image.specs.Image.{Image, PlexImage, is_stale}
use Rattle.vx_image.specs.Soundness.{IsChoiceOfMarks, IsDirtyBy, IsSoundBy, IsUnmarkedPlex, MayDiffer, PlexesAgree}
use Rattle.vx_group_edits.specs.Joins.{with_plex}
use Rattle.vx_group_edits.specs.JoinedLaws.{EachMarkedPlexStaysSound}

-- what is among these and one more is among these, or is the other
last_or : (ps : List PlexImage) (p q : PlexImage) → Contains (ps ++ p ∷ []) q → IsIn ps q ⊎ (q ≡ p)
last_or ps p q there = elim (in_either ps (p ∷ []) q (is_in (ps ++ p ∷ []) q there)) [
  | inl before ↦ inl before
  | inr last ↦ only last
]
  where
    only : IsIn (p ∷ []) q → IsIn ps q ⊎ (q ≡ p)
    only (inl same) = inr same
    only (inr none) = absurd none

module _ (v : Image) (p : PlexImage) (r : ℕ) (B : ℕ → Bool) (marked : B p.map ≡ true) where
  -- an unmarked plex is one that was there
  was : (q : PlexImage) → IsUnmarkedPlex (v.plexes ++ p ∷ []) B q → IsUnmarkedPlex v.plexes B q
  was q u = elim (last_or v.plexes p q u.of) [
    | inl before ↦ record { of = contains v.plexes q before; held = u.held; unmarked = u.unmarked }
    | inr same ↦ absurd (false≢true (sym u.unmarked ∙ ap (λ (x : PlexImage). B x.map) same ∙ marked))
  ]

  agree : PlexesAgree v r B → PlexesAgree (with_plex v p) r B
  agree all q s one other b inside here = all q s (was q one) (was s other) b inside here

  stale : IsDirtyBy v B → (q : PlexImage) → Contains (v.plexes ++ p ∷ []) q → is_stale q ≡ true → q.held ≡ true → B q.map ≡ true
  stale d q there is held = elim (last_or v.plexes p q there) [
    | inl before ↦ d.stale q (contains v.plexes q before) is held
    | inr same ↦ ap (λ (x : PlexImage). B x.map) same ∙ marked
  ]

  dirty : IsDirtyBy v B → IsDirtyBy (with_plex v p) B
  dirty d = record { dirty = d.dirty; stale = stale d }

  differ : (s : VolState) → MayDiffer s v B → MayDiffer s (with_plex v p) B
  differ vol.Empty d = d
  differ vol.Clean d = d
  differ vol.Active d = dirty d
  differ vol.NeedSync d = dirty d
  differ vol.Sync d = dirty d

  by_choice : IsSoundBy v r B → IsSoundBy (with_plex v p) r B
  by_choice is = record {
    unmarked = let q = is.unmarked in (q.0, contains (v.plexes ++ p ∷ []) q.0 (in_left v.plexes (p ∷ []) q.0 (is_in v.plexes q.0 q.1)), q.2);
    agree = elim is.agree [
      | inl all ↦ inl (agree all)
      | inr may ↦ inr (differ v.state may)
    ];
    tracked = λ m there clear. agree (is.tracked m there clear);
  }

pub marked_sound : EachMarkedPlexStaysSound
marked_sound v p marked sound r B inside choice =
    let here : IsChoiceOfMarks v r B = record { least = choice.least; most = choice.most } in
    by_choice v p r B (choice.least p.map (marked r inside)) (sound r B inside here)
