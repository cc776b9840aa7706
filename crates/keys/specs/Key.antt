-- The code's key as the layout's.
use Rattle.layout.specs.Keys as layout
use Rattle.keys.specs.declared.Key.{Key}

abbrev pub key_is : Key → layout.Key
key_is k = k.level
