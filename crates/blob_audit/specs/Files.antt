-- A recorded file as it is lent.
use Rattle.row_tables.specs.Stored.{shown_entry}
use Rattle.blob_audit.specs.declared.order.RecordedFile.{RecordedFile}
use Rattle.blob_audit.specs.Order.{File}

abbrev pub shown_file : RecordedFile → File
shown_file f = record { is_hosted = f.is_hosted; row = shown_entry (f.place.now, f.row.now) }
