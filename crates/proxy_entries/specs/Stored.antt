-- The documents and negative entries of a proxy as the machine's plain data.
use Rattle.std.specs.Prelude.{◌≤◌, ℕ, List, map, String, string_bytes}
use Rattle.std.specs.declared.alloc.Global.{Global}
use Rattle.std.specs.List.{AllByRecursion}
use Rattle.repo_model.specs.Data as plain
use Rattle.repo_model.specs.History.{latest_moment}
use Rattle.proxy_entries.specs.declared.kept.Kept.{Kept}

abbrev pub shown_kept : List ℕ → Kept → plain.Kept
shown_kept path kept = record { path = path; checked = kept.checked; document = kept.doc }

abbrev pub kept_entry : String Global × Kept → plain.Kept
kept_entry e = shown_kept (string_bytes e.0) e.1

abbrev pub shown_documents : List (String Global × Kept) → List plain.Kept
shown_documents entries = map kept_entry entries

abbrev pub shown_negative : List ℕ → ℕ → plain.NegativeEntry
shown_negative path moment = record { path = path; moment = moment }

abbrev pub negative_entry : String Global × ℕ → plain.NegativeEntry
negative_entry e = shown_negative (string_bytes e.0) e.1

abbrev pub shown_negatives : List (String Global × ℕ) → List plain.NegativeEntry
shown_negatives entries = map negative_entry entries

-- each was asked for at a moment of a turn
abbrev pub AreInTime : List plain.NegativeEntry → Type 0
AreInTime negatives = AllByRecursion (λ (m : plain.NegativeEntry). m.moment ≤ latest_moment) negatives
