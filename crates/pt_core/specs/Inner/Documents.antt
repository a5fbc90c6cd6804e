-- The documents of a sink as one list.
use Rattle.std.specs.Prelude.{List, [], ◌++◌, None}
use Rattle.pt_core.specs.Documents.{Document, Documents, as_list}

-- no documents: none whole and none open
abbrev pub no_documents : Documents
no_documents = record { whole = []; last_open = None }

-- all documents, with the open one last
abbrev pub listed : Documents → List Document
listed ds = ds.whole ++ as_list ds.last_open
