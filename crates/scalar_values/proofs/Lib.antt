mod KnownParts
