-- What contracts see of a document.
use Rattle.std.specs.Prelude.{ℕ, Bool, List, [], ◌∷◌, map, Option, Some, None, String, string_bytes, bytes_eq, if◌then◌else◌}
use Rattle.std.specs.Option.{option_or}
use Rattle.std.specs.declared.alloc.Global.{Global}
use Rattle.smithy_core.specs.declared.document.Document.{Document, fold-Document}
use Rattle.smithy_core.specs.declared.document.Document.TheOpen.{Document-F}

-- nothing, a Boolean, a text, values in order, or names and their values in order
mutual
  pub data Data : Type 0 where
    null : Data
    truth : Bool → Data
    text : List ℕ → Data
    array : Items → Data
    object : Members → Data

  pub data Items : Type 0 where
    no_items : Items
    item : Data → Items → Items

  pub data Members : Type 0 where
    no_members : Members
    member : List ℕ → Data → Members → Members

-- the value, where this is its name
abbrev pub value_if_named : List ℕ → Data → List ℕ → Option Data
value_if_named name value asked = if bytes_eq name asked then Some value else None

-- the value of the last member that has the name
abbrev pub last_member : Members → List ℕ → Option Data
last_member no_members asked = None
last_member (member name value members) asked = option_or (last_member members asked) (value_if_named name value asked)

-- the value of a name in an object
abbrev pub get : Data → List ℕ → Option Data
get null asked = None
get (truth value) asked = None
get (text bytes) asked = None
get (array items) asked = None
get (object members) asked = last_member members asked

-- these values as items
abbrev pub items_of : List Data → Items
items_of [] = no_items
items_of (value ∷ values) = item value (items_of values)

-- these names and values as members
abbrev pub members_of : List (String Global × Data) → Members
members_of [] = no_members
members_of (pair ∷ pairs) = member (string_bytes pair.0) pair.1 (members_of pairs)

-- one level of a document, whose values are seen as their data
abbrev pub level : Document-F Data → Data
level Document-F.Null = null
level (Document-F.Bool value) = truth value
level (Document-F.String bytes) = text (string_bytes bytes)
level (Document-F.Array values) = array (items_of values.items)
level (Document-F.Object pairs) = object (members_of pairs.items)

-- the data of a document
abbrev pub data_of : Document → Data
data_of = fold-Document Data level

-- the data of documents
abbrev pub items_data : List Document → Items
items_data documents = items_of (map data_of documents)

-- the names, and the data of the documents
abbrev pub members_data : List (String Global × Document) → Members
members_data pairs = members_of (map (λ pair. (pair.0, data_of pair.1)) pairs)
