mod FieldMaps
