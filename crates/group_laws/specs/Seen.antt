-- What a group has, by the turn that its members' stances give.
use Rattle.std.specs.Prelude.{List, slice_get, Option, None}
use Rattle.repo_model.specs.Turn.{Seen, is_file, is_text, is_doc, is_nothing, is_to_fetch, is_blocked, is_negative, is_never, first_or}
use Rattle.group_view.specs.declared.stances.Stance.{Stance}
use Rattle.group_view.specs.declared.stances.Stance.TheVariants as stance
use Rattle.group_view.specs.declared.stances.Turn.{Turn}
use Rattle.group_view.specs.declared.stances.Turn.TheVariants.{Ask, Serve, Nothing}

-- what a member does that has this
abbrev pub stance_of : Seen → Stance
stance_of (is_file blob) = stance.Serve
stance_of (is_text bytes) = stance.Serve
stance_of (is_doc bytes) = stance.Serve
stance_of (is_to_fetch member rule path of_file) = stance.Fetch
stance_of is_nothing = stance.Pass
stance_of is_blocked = stance.Pass
stance_of is_negative = stance.Pass
stance_of is_never = stance.Pass

-- what the member has whose turn it is
abbrev pub seen_of : List Seen → Turn → Seen
seen_of seens (Ask member) = first_or (slice_get seens member) is_nothing
seen_of seens (Serve member) = first_or (slice_get seens member) is_nothing
seen_of seens Nothing = is_nothing

-- what the member is to fetch whose turn it is to ask
abbrev pub asked_of : List Seen → Turn → Option Seen
asked_of seens (Ask member) = slice_get seens member
asked_of seens (Serve member) = None
asked_of seens Nothing = None
