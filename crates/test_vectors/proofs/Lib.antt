mod AddressLaws
mod ChainLaws
mod TextLaws
mod UseLaws
mod VectorLaws
