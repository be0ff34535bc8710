mod NameLaws
mod NetworkLaws
mod PortLaws
mod OverLaws
mod PrefixLaws
mod PrefixCount
mod PrefixCover
