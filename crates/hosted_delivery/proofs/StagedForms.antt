-- A staged file as it is recorded: an item of its form.
use Rattle.std.proofs.Common.{◌≡◌, ℕ, ◌≤◌, true, ◌&&◌, List}
use Rattle.std.proofs.lemmas.Bool.{and_parts}
use Rattle.repo_model.specs.Data as plain
use Rattle.repo_model.specs.declared.item.Item.TheVariants.{HostedPut, Relisted}
use Rattle.repo_model.specs.History.{latest_moment}
use Rattle.repo_model.specs.Prints.{recorded_print}
use Rattle.row_tables.specs.Items.{is_count, is_file_path, is_id, is_number}
use Rattle.ordered_rows.specs.Recording.{IsShort}
use Rattle.ordered_rows.proofs.ChangeLemmas.{AreDigests, moment-so, put-short, relist-short}
use Rattle.hosted_delivery.specs.Deliveries.{is_recordable}

module _ (id : List ℕ) (named : is_id id ≡ true) where
  pub staged-put : (file : plain.Staged) (now : ℕ) → is_recordable file ≡ true → AreDigests file.blob.print.digests → now ≤ latest_moment
      → IsShort (HostedPut id file.path file.blob.number (recorded_print file.blob.print) now)
  staged-put file now formed are late =
      let print = file.blob.print in
      let a = and_parts (is_file_path file.path) (is_number file.blob.number && is_count print.length) formed in
      let b = and_parts (is_number file.blob.number) (is_count print.length) a.1 in
      put-short id file.path named a.0 file.blob.number print now b.0 b.1 are (moment-so now late)

  pub staged-again : (file : plain.Staged) (now : ℕ) → is_recordable file ≡ true → now ≤ latest_moment → IsShort (Relisted id file.path now)
  staged-again file now formed late =
      relist-short id file.path named (and_parts (is_file_path file.path) (is_number file.blob.number && is_count file.blob.print.length) formed).0 now (moment-so now late)
