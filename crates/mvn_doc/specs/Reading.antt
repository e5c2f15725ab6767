-- Which document a text is read as (Maven repository metadata 1.1.0, over a subset of XML 1.0), or the place of the first fault.
use Rattle.std.specs.Prelude.{◌≡◌, ℕ, List, [], codes, Result, Ok, Err}
use Rattle.xml_subset.specs.Document.{outline}
use Rattle.xml_subset.specs.Element.{Element}
use Rattle.xml_subset.specs.declared.document.XmlFault.{XmlFault}
use Rattle.xml_subset.specs.declared.document.XmlFault.TheVariants as xml
use Rattle.mvn_doc.specs.declared.reading.DocFault.{DocFault}
use Rattle.mvn_doc.specs.declared.reading.DocFault.TheVariants.{BadDocument, NoMemory}
use Rattle.mvn_metadata.specs.Document.{Document}
use Rattle.mvn_doc.specs.Picked.{document_in}
use Rattle.mvn_doc.specs.Place.{placed}

abbrev pub picked : Result (List Element) ℕ → Result Document ℕ
picked (Ok es) = Ok (document_in (placed [] es))
picked (Err at) = Err at

-- the document of a text, or where its first fault is
abbrev pub reading : List ℕ → Result Document ℕ
reading text = picked (outline (codes "metadata") text)

-- a fault of the text as one of the document
abbrev pub fault_of : XmlFault → DocFault
fault_of (xml.Malformed at) = BadDocument at
fault_of xml.NoMemory = NoMemory

-- the fault tells the place, or there was no memory
abbrev pub IsFaultOf : Result Document ℕ → DocFault → Type 0
IsFaultOf read NoMemory = Unit {0}
IsFaultOf read (BadDocument at) = read ≡ Err at
